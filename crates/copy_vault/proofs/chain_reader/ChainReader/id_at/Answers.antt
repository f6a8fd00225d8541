use Rattle.copy_vault.specs.declared.header.ArchiveHeader.{ArchiveHeader}
use Rattle.copy_vault.proofs.ChainRows.{of_head}
use Rattle.copy_vault.proofs.chain_reader.ChainReader.id_at.Goals as goal

pub returns : goal.returns
returns c =
    of_head (λ (h : ArchiveHeader). h.id) c.args.self.now.cursors.items c.args.index c.index.result.now c.requires
    c.index.ensures
