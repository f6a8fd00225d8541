-- What audited chains restore.
use Rattle.std.proofs.Common.{List}
use Rattle.page_core.specs.declared.page.Page.{Page}
use Rattle.copy_audit.specs.Audit.{IsAudited}
use Rattle.copy_audit.proofs.Public.{covering_of_audited}
use Rattle.media_restore.specs.Files.{AreSound, Files, IsRestoredFrom}

pub sound_of_audited : (files : Files) (pages : List Page) → (it : IsRestoredFrom files pages)
    → IsAudited it.log it.copies → AreSound it.log pages
sound_of_audited files pages it is = it.sound (covering_of_audited it.log it.copies it.parts.chain is)
