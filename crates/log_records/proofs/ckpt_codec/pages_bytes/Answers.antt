use Rattle.std.proofs.Common.{◌∙◌, ap, sym}
use Rattle.log_records.specs.declared.dirty_page.DirtyPages.{DirtyPages}
use Rattle.log_records.specs.declared.fields.TheConstants.{CHKPT_PAGES}
use Rattle.log_records.specs.CkptBytes.{ckpt_bytes, entry_bytes, pages_body}
use Rattle.log_records.proofs.ckpt_codec.pages_bytes.Goals as goal

pub returns-in-One : goal.returns-in-One
unfolding entry_bytes pages_body
returns-in-One c =
    c.counted_bytes.ensures
    ∙ ap (λ (p : DirtyPages). ckpt_bytes CHKPT_PAGES c.args.begin (pages_body p) c.args.lsn) (sym c.in-One.is)

pub returns-in-Two : goal.returns-in-Two
unfolding entry_bytes pages_body
returns-in-Two c =
    c.counted_bytes-in-Two.ensures
    ∙ ap (λ (p : DirtyPages). ckpt_bytes CHKPT_PAGES c.args.begin (pages_body p) c.args.lsn) (sym c.in-Two.is)

pub returns-in-Three : goal.returns-in-Three
unfolding entry_bytes pages_body
returns-in-Three c =
    c.counted_bytes-in-Three.ensures
    ∙ ap (λ (p : DirtyPages). ckpt_bytes CHKPT_PAGES c.args.begin (pages_body p) c.args.lsn) (sym c.in-Three.is)
