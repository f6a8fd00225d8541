-- Files of what an engine leaves have no fault of their own.
use Rattle.std.proofs.Common.{◌≡◌, ◌≤◌, ◌<◌, ◌⊎◌, inl, inr, List, refl, sym, subst, arith}
use Rattle.std.specs.Prelude.{Some}
use Rattle.log_records.specs.declared.limits.TheConstants.{MAX_RECORDS}
use Rattle.log_records.specs.declared.record.Record.{Record}
use Rattle.log_records.specs.Log.{Log, SpellsLog, counts_of, log_bytes}
use Rattle.log_rules.specs.Checkpoint.{IsCompleteCheckpoint}
use Rattle.log_rules.specs.Linked.{IsLinked}
use Rattle.log_store.specs.declared.fault.LogReadFault.{LogReadFault}
use Rattle.log_store.specs.declared.fault.LogReadFault.TheVariants as log
use Rattle.log_store.specs.declared.master.Master.{Master}
use Rattle.log_store.specs.Fault as log_fault
use Rattle.log_store.specs.Master.{SpellsMaster, master_bytes}
use Rattle.log_store.proofs.Public.{none_in_log}
use Rattle.log_store.proofs.Public.{same_master}
use Rattle.copy_vault.specs.declared.chain_read_fault.ChainReadFault.{ChainReadFault}
use Rattle.copy_vault.specs.declared.chain_read_fault.ChainReadFault.TheVariants as chain
use Rattle.copy_vault.specs.ChainReading.{AreNoChain, IsFromOutside, archives_of}
use Rattle.copy_vault.specs.Copy.{CopyView}
use Rattle.copy_audit.proofs.Public.{from_outside, same_log_of}
use Rattle.media_restore.specs.declared.files_fault.RestoreFault.{RestoreFault}
use Rattle.media_restore.specs.declared.files_fault.RestoreFault.TheVariants.{BadChain, BadHeader, OutOfMemory}
use Rattle.media_restore.specs.declared.files_fault.RestoreFault.TheVariants.{ReadFault}
use Rattle.media_restore.specs.Files.{MasterRefused, Refused, most_records, of_memory, of_the_archives}
use Rattle.media_restore.specs.Files.{of_the_log, of_the_master, of_undo}
use Rattle.media_restore.specs.FilesArchives.{end_of}
use Rattle.media_restore.specs.FilesFault.{of_chain, of_log}
use Rattle.media_restore.specs.Saved.{AreLeft, files_of}
use Rattle.media_restore.proofs.Saved.{log_is, parts_of, right_of}

abbrev IsOutside : RestoreFault → Type 0
IsOutside fault = (fault ≡ OutOfMemory) ⊎ (fault ≡ ReadFault)

-- ---- the log

outside_log : (whole : Log) → SpellsLog whole (log_bytes whole) → IsLinked whole.records → (why : LogReadFault)
    → log_fault.Refuses (log_bytes whole) why → IsOutside (of_log why)
outside_log whole spells linked log.OutOfMemory refused = inl refl
outside_log whole spells linked log.ReadFault refused = inr refl
outside_log whole spells linked log.BadHeader refused =
    absurd (none_in_log whole (log_bytes whole) spells linked log.BadHeader refused.there)
outside_log whole spells linked (log.BadRecord at) refused =
    absurd (none_in_log whole (log_bytes whole) spells linked (log.BadRecord at) refused.there)
outside_log whole spells linked (log.BadChain at) refused =
    absurd (none_in_log whole (log_bytes whole) spells linked (log.BadChain at) refused.there)
outside_log whole spells linked (log.Torn at) refused =
    absurd (none_in_log whole (log_bytes whole) spells linked (log.Torn at) refused.there)
outside_log whole spells linked log.TooLong refused =
    absurd (none_in_log whole (log_bytes whole) spells linked log.TooLong refused.there)

-- ---- the master record

outside_master : (rs : List Record) (master : Master) → SpellsMaster master (master_bytes master)
    → IsCompleteCheckpoint rs master.begin master.end → (fault : RestoreFault)
    → MasterRefused (Some (master_bytes master)) rs fault → IsOutside fault
outside_master rs master spells complete (BadChain begin) refused =
    let named : Master = record { begin = begin; end = refused.0 } in
    let same : named ≡ master = same_master named master (master_bytes master) refused.1 spells in
    absurd (refused.2 (subst (λ (m : Master). IsCompleteCheckpoint rs m.begin m.end) (sym same) complete))
outside_master rs master spells complete BadHeader refused = absurd (refused master spells)
outside_master rs master spells complete ReadFault refused = inr refl
outside_master rs master spells complete other refused = absurd refused

-- ---- the archives

outside_chain : (why : ChainReadFault) → IsFromOutside why → IsOutside (of_chain why)
outside_chain chain.OutOfMemory is = inl refl
outside_chain (chain.BadArchive at) is = absurd is
outside_chain (chain.ChainBroken copy) is = absurd is
outside_chain chain.CountDiffers is = absurd is
outside_chain chain.ReadFault is = inr refl
outside_chain chain.RedoBeyondLog is = absurd is
outside_chain (chain.PageBeyondLog page) is = absurd is

-- ---- all of them

has_room : (whole : Log) (master : Master) (copies : List CopyView) → AreLeft whole master copies
    → most_records whole ≤ MAX_RECORDS
has_room whole master copies left =
    subst (λ (k : Log). most_records k ≤ MAX_RECORDS) (sym left.kept.made)
    (left.retired.room left.kept.count left.kept.within left.kept.forced)

pub refused_outside : (whole : Log) (master : Master) (copies : List CopyView) (fault : RestoreFault)
    → AreLeft whole master copies → Refused (files_of whole master copies) fault
    → (fault ≡ OutOfMemory) ⊎ (fault ≡ ReadFault)
refused_outside whole master copies fault left (of_the_log refused) =
    let parts = parts_of whole master copies left in
    subst IsOutside (sym refused.same)
    (outside_log whole parts.of_log.spelled parts.of_log.linked refused.why refused.refused)
refused_outside whole master copies fault left (of_the_master other is refused) =
    let parts = parts_of whole master copies left in
    let same : other ≡ whole = same_log_of whole other is.spelled (log_is whole master copies left) in
    outside_master whole.records master parts.of_master.spelled parts.of_master.complete fault
    (subst (λ (k : Log). MasterRefused (Some (master_bytes master)) k.records fault) same refused)
refused_outside whole master copies fault left (of_the_archives other named is of refused) =
    let same : other ≡ whole = same_log_of whole other is.spelled (log_is whole master copies left) in
    subst IsOutside (sym refused.same) (outside_chain refused.why
    (from_outside (counts_of whole) (end_of whole) refused.lefts copies refused.why (right_of whole master copies left)
    (subst (λ (k : Log). AreNoChain (counts_of k) (end_of k) (archives_of copies) refused.lefts refused.why) same
    refused.refused)))
refused_outside whole master copies fault left (of_undo other named members parts is full) =
    let same : other ≡ whole = same_log_of whole other parts.of_log.spelled (log_is whole master copies left) in
    let room = has_room whole master copies left in
    let more : MAX_RECORDS < most_records whole = subst (λ (k : Log). MAX_RECORDS < most_records k) same full in
    absurd (omega (arith, room, more))
refused_outside whole master copies fault left (of_memory is) = inl is
