use Rattle.std.proofs.Common.{◌≡◌, ◌∙◌, sym}
use Rattle.log_records.specs.Log.{header_bytes}
use Rattle.log_records.proofs.Public.{count_behind-nil}
use Rattle.log_store.proofs.WrittenLogs.{written_empty}
use Rattle.log_store.specs.Stores.{at_the_store, at_the_sync}
use Rattle.log_store.proofs.stored_log.StoredLog.new.Goals as goal

pub invariant_of-result : goal.invariant_of-result
invariant_of-result g c =
    let bytes = g.D.LogDevice.bytes in
    let device = c.sync.new.self in
    let spelled : bytes device ≡ header_bytes c.args.pages =
    c.in_default-sync.ensures.same ∙ c.in_default.ensures.stored ∙ c.encode_header.ensures in
    rw c.new.ensures.items
    (written_empty bytes c.args.pages _ device c.requires spelled, sym (count_behind-nil c.args.pages))

pub returns-in-Err-clause-last_call : goal.returns-in-Err-clause-last_call
returns-in-Err-clause-last_call g c =
    at_the_store c.in-Err.fault (rw c.encode_header.ensures at c.in-Err.ensures.called)

pub returns-in-Err-sync-clause-last_call : goal.returns-in-Err-sync-clause-last_call
returns-in-Err-sync-clause-last_call g c =
    at_the_sync c.store.new.self c.in-Err-sync.fault (rw c.encode_header.ensures at c.in_default.ensures.called)
    c.in-Err-sync.ensures.synced
