-- The bytes of a master record have one fault at most.
use Rattle.std.proofs.Common.{◌≡◌, ◌≢◌, ◌⊎◌, ℕ, List, refl, sym, ap, ◌∙◌, inl, inr}
use Rattle.std.specs.Prelude.{Some}
use Rattle.log_records.specs.declared.record.Record.{Record}
use Rattle.log_store.specs.declared.master.Master.{Master}
use Rattle.log_store.specs.Master.{SpellsMaster}
use Rattle.log_store.proofs.Public.{same_master}
use Rattle.media_restore.specs.Files.{MasterRefused}
use Rattle.media_restore.specs.declared.files_fault.RestoreFault.{RestoreFault}
use Rattle.media_restore.specs.declared.files_fault.RestoreFault.TheVariants.{OutOfMemory, LogFull}
use Rattle.media_restore.specs.declared.files_fault.RestoreFault.TheVariants.{WriteFault, BadHeader}
use Rattle.media_restore.specs.declared.files_fault.RestoreFault.TheVariants.{BadRecord, Torn}
use Rattle.media_restore.specs.declared.files_fault.RestoreFault.TheVariants.{ReadFault, TooLong}
use Rattle.media_restore.specs.declared.files_fault.RestoreFault.TheVariants.{BadChain, BadArchive}
use Rattle.media_restore.specs.declared.files_fault.RestoreFault.TheVariants.{ChainBroken}
use Rattle.media_restore.specs.declared.files_fault.RestoreFault.TheVariants.{CountDiffers}
use Rattle.media_restore.specs.declared.files_fault.RestoreFault.TheVariants.{RedoBeyondLog, PageBeyondLog}

-- what a fault of the bytes says of them: they spell no master record, or one that is refused
abbrev Says : List ℕ → RestoreFault → Type 0
Says bytes fault =
    ((fault ≡ BadHeader) × ((m : Master) → ¬ SpellsMaster m bytes))
    ⊎ ((m : Master) × (fault ≡ BadChain m.begin) × SpellsMaster m bytes)

says : (bytes : List ℕ) (rs : List Record) (fault : RestoreFault) → fault ≢ ReadFault
    → MasterRefused (Some bytes) rs fault → Says bytes fault
says bytes rs OutOfMemory read refused = absurd refused
says bytes rs LogFull read refused = absurd refused
says bytes rs (WriteFault done) read refused = absurd refused
says bytes rs BadHeader read refused = inl (refl, refused)
says bytes rs (BadRecord at) read refused = absurd refused
says bytes rs (Torn at) read refused = absurd refused
says bytes rs ReadFault read refused = absurd (read refl)
says bytes rs TooLong read refused = absurd refused
says bytes rs (BadChain begin) read refused = inr (record { begin = begin; end = refused.0 }, refl, refused.1)
says bytes rs (BadArchive at) read refused = absurd refused
says bytes rs (ChainBroken copy) read refused = absurd refused
says bytes rs CountDiffers read refused = absurd refused
says bytes rs RedoBeyondLog read refused = absurd refused
says bytes rs (PageBeyondLog page) read refused = absurd refused

alike : (bytes : List ℕ) (a b : RestoreFault) → Says bytes a → Says bytes b → a ≡ b
alike bytes a b (inl one) (inl two) = one.0 ∙ sym two.0
alike bytes a b (inl one) (inr two) = absurd (one.1 two.0 two.2)
alike bytes a b (inr one) (inl two) = absurd (two.1 one.0 one.2)
alike bytes a b (inr one) (inr two) =
    one.1 ∙ ap (λ (m : Master). BadChain m.begin) (same_master one.0 two.0 bytes one.2 two.2) ∙ sym two.1

pub one_master_fault : (bytes : List ℕ) (rs : List Record) (a b : RestoreFault) → a ≢ ReadFault → b ≢ ReadFault
    → MasterRefused (Some bytes) rs a → MasterRefused (Some bytes) rs b → a ≡ b
one_master_fault bytes rs a b first second one two =
    alike bytes a b (says bytes rs a first one) (says bytes rs b second two)
