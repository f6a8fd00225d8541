-- Runs of an engine for a copy that is made by one command.
use Rattle.std.proofs.Common.{ℕ, ◌≡◌, ◌≢◌, ◌+◌, ◌++◌, List, [], ◌∷◌, ap, refl, subst, sym, ◌∙◌}
use Rattle.std.specs.Prelude.{IfSome, None, Option, Result, Some, Ok, Err}
use Rattle.std.specs.Io.KnownBytes.{Appends}
use Rattle.std.specs.List.{Contains}
use Rattle.std.proofs.lemmas.List.{append_assoc}
use Rattle.std.proofs.lemmas.List.Elements.{All-append, All-cons, All-nil}
use Rattle.copy_vault.specs.Vault.{state_of, taken_in}
use Rattle.engine_calls.specs.EventFits.{EventFits}
use Rattle.engine_calls.specs.declared.event.Answer.{Answer}
use Rattle.engine_calls.specs.declared.event.Answer.TheVariants as answer
use Rattle.engine_calls.specs.declared.event.Event.{Event}
use Rattle.engine_calls.specs.declared.event.Event.TheVariants.{DropCopy, Repair, Seal, Take}
use Rattle.engine_calls.specs.declared.refusal.Refusal.{Refusal}
use Rattle.engine_calls.specs.declared.refusal.Refusal.TheVariants.{CopyNotComplete, StoreFault}
use Rattle.engine_rules.specs.EngineState.{EngineState}
use Rattle.engine_rules.specs.EngineView.{EngineView}
use Rattle.engine_rules.specs.Step.{Step}
use Rattle.saved_files.specs.declared.file_fault.FileFault.{FileFault}
use Rattle.database_session.proofs.Runs.{run_append}
use Rattle.database_session.proofs.CommandRuns.{runs_both, runs_call, runs_nothing, runs_weaker}
use Rattle.database_session.specs.CopyBehindPoint.{CopiesBehindPoint, TellsCopy}
use Rattle.session_lines.specs.Commands.{IsCopied, IsToldWell}
use Rattle.database_session.specs.Calls.{IsAnyReply, Makes, RunsBy, SaysOf, copy_call}
use Rattle.database_session.specs.MadeFiles.{CopyStandsOnPlaced, IsCleanFor, IsCopyGiven, SomeCopyWaits, TellsNoCopy}
use Rattle.database_session.specs.MadeFiles.{WaitsUnlessCopied}
use Rattle.database_session.specs.UnplacedCopies.{Waits, WaitsUnlessPlaced}
use Rattle.session_lines.specs.Said.{IsAnswer, IsAnswerOr, IsReply}
use Rattle.database_session.specs.CommandCopies.{BeginsAndFills, DropsCopy, EndsBySeal, FillsCopy, RefusesPage, RefusesPages, SealsCopy}
use Rattle.database_session.specs.CommandCopies.{TakesPage, TakesPages, at_once, at_page, begun_and_filled, filled, no_page}
use Rattle.database_session.specs.CommandCopies.{not_begun, not_filled, not_in_place, not_repaired, not_sealed, not_taken}
use Rattle.database_session.specs.CommandCopies.{not_taken_then, once_repaired, one_page, refused_first, sealed_well}
use Rattle.database_session.specs.CommandCalls.{IsOfCheckpoint, MakesCommand, Runs, SaysOfCommand, copied, copied_behind, not_behind}
use Rattle.session_lines.specs.Commands.{one_line, text_of}
use Rattle.database_session.specs.declared.unplaced_copies.Stage.{Stage}
use Rattle.session_lines.specs.declared.said.Said.{Said}
use Rattle.session_lines.specs.declared.said.Said.TheVariants.{Reply, Unplaced}
use Rattle.session_lines.specs.declared.operator_command.OperatorCommand.TheVariants.{Checkpoint, Copy}
use Rattle.session_lines.specs.declared.command_said.CommandSaid.{CommandSaid}
use Rattle.session_lines.specs.declared.command_said.CommandSaid.TheVariants.{Call, Copied, Flushed}

-- ---- one page

-- a call more, and then those that follow
runs_first : (P : List Event → List (Result Answer Refusal) → Type 0) (old mid new : EngineState) (event : Event)
    (reply : Result Answer Refusal) → EventFits event → Step old event reply mid
    → Runs (λ events replies. P (event ∷ events) (reply ∷ replies)) mid new → Runs P old new
runs_first P old mid new event reply fits step runs = record {
  events = event ∷ runs.events;
  replies = reply ∷ runs.replies;
  fit = All-cons EventFits event runs.events fits runs.fit;
  run = (mid, step, runs.run);
  holds = runs.holds;
}

module _ (id page : ℕ) where
  pub takes_at_once : (answer : Answer) (old new : EngineState) → Step old (Take id page) (Ok answer) new
      → Runs (TakesPage id page) old new
  takes_at_once answer old new step =
      runs_call (TakesPage id page) old new (Take id page) (Ok answer) tt step (at_once answer)

  pub refuses_page : (why : Refusal) (old new : EngineState) → Step old (Take id page) (Err why) new
      → Runs (RefusesPage id page why) old new
  refuses_page why old new step =
      runs_call (RefusesPage id page why) old new (Take id page) (Err why) tt step not_taken

  pub refuses_repair : (from : ℕ) (why : Refusal) (old mid new : EngineState)
      → Step old (Take id page) (Err StoreFault) mid → Step mid (Repair from page) (Err why) new
      → Runs (RefusesPage id page why) old new
  refuses_repair from why old mid new step repair =
      runs_first (RefusesPage id page why) old mid new (Take id page) (Err StoreFault) tt step
      (runs_call (λ events replies. RefusesPage id page why (Take id page ∷ events) (Err StoreFault ∷ replies))
      mid new (Repair from page) (Err why) tt repair (not_repaired from))

  module _ (from : ℕ) (repair : Answer) (old mid there new : EngineState)
      (step : Step old (Take id page) (Err StoreFault) mid) (repairs : Step mid (Repair from page) (Ok repair) there) where
    pub takes_repaired : (answer : Answer) → Step there (Take id page) (Ok answer) new → Runs (TakesPage id page) old new
    takes_repaired answer takes =
        runs_first (TakesPage id page) old mid new (Take id page) (Err StoreFault) tt step
        (runs_first (λ events replies. TakesPage id page (Take id page ∷ events) (Err StoreFault ∷ replies))
        mid there new (Repair from page) (Ok repair) tt repairs
        (runs_call (λ events replies. TakesPage id page (Take id page ∷ Repair from page ∷ events)
        (Err StoreFault ∷ Ok repair ∷ replies)) there new (Take id page) (Ok answer) tt takes
        (once_repaired from repair answer)))

    pub refuses_repaired : (why : Refusal) → Step there (Take id page) (Err why) new
        → Runs (RefusesPage id page why) old new
    refuses_repaired why refuses =
        runs_first (RefusesPage id page why) old mid new (Take id page) (Err StoreFault) tt step
        (runs_first (λ events replies. RefusesPage id page why (Take id page ∷ events) (Err StoreFault ∷ replies))
        mid there new (Repair from page) (Ok repair) tt repairs
        (runs_call (λ events replies. RefusesPage id page why (Take id page ∷ Repair from page ∷ events)
        (Err StoreFault ∷ Ok repair ∷ replies)) there new (Take id page) (Err why) tt refuses
        (not_taken_then from repair)))

-- ---- all pages

pub takes_none : (id : ℕ) (s : EngineState) → Runs (TakesPages id 0) s s
takes_none id s = runs_nothing (TakesPages id 0) s no_page

pub takes_more : (id page : ℕ) (old mid new : EngineState) → Runs (TakesPages id page) old mid
    → Runs (TakesPage id page) mid new → Runs (TakesPages id (page + 1)) old new
takes_more id page old mid new =
    runs_both (TakesPages id page) (TakesPage id page) (TakesPages id (page + 1))
    (λ events more replies given so_far next. one_page page events more replies given so_far next) old mid new

pub takes_refused : (id page : ℕ) (why : Refusal) (old mid new : EngineState) → Runs (TakesPages id page) old mid
    → Runs (RefusesPage id page why) mid new → Runs (RefusesPages id why) old new
takes_refused id page why old mid new =
    runs_both (TakesPages id page) (RefusesPage id page why) (RefusesPages id why)
    (λ events more replies given so_far refused. at_page page events more replies given so_far refused) old mid new

pub drops : (id : ℕ) (why : Refusal) (old mid new : EngineState) (reply : Result Answer Refusal)
    → Runs (RefusesPages id why) old mid → Step mid (DropCopy id) reply new → Runs (DropsCopy id why) old new
drops id why old mid new reply refused step = record {
  events = refused.events ++ DropCopy id ∷ [];
  replies = refused.replies ++ reply ∷ [];
  fit = All-append EventFits refused.events (DropCopy id ∷ []) refused.fit
      (All-cons EventFits (DropCopy id) [] tt (All-nil EventFits));
  run = run_append old mid new refused.events (DropCopy id ∷ []) refused.replies (reply ∷ []) refused.run
      (new, step, refl);
  holds = refused_first refused.events refused.replies reply refused.holds;
}

-- ---- a copy that is made complete

pub seals : (id pages taken : ℕ) (old new : EngineState) (reply : Answer) → Step old (Seal id) (Ok reply) new
    → ((count : ℕ) → reply ≡ answer.Sealed count → taken ≡ count)
    → Runs (λ events replies. SealsCopy id pages events replies (Copied id pages taken)) old new
seals id pages taken old new reply step is_taken =
    let counted : reply ≡ answer.Sealed (taken_in (state_of old.copies id)) = step.1 in
    let told : reply ≡ answer.Sealed taken =
    counted ∙ ap (λ (count : ℕ). answer.Sealed count) (sym (is_taken (taken_in (state_of old.copies id)) counted)) in
    runs_call (λ events replies. SealsCopy id pages events replies (Copied id pages taken)) old new (Seal id) (Ok reply)
    tt step
    (subst (λ (it : Answer). SealsCopy id pages (Seal id ∷ []) (Ok it ∷ []) (Copied id pages taken)) (sym told)
    (sealed_well taken))

pub seals_unplaced : (id pages : ℕ) (old new : EngineState) (reply : Answer) (fault : FileFault)
    → Step old (Seal id) (Ok reply) new
    → Runs (λ events replies. SealsCopy id pages events replies (Call (Unplaced fault))) old new
seals_unplaced id pages old new reply fault step =
    runs_call (λ events replies. SealsCopy id pages events replies (Call (Unplaced fault))) old new (Seal id) (Ok reply)
    tt step (not_in_place reply fault)

pub seals_not : (id pages : ℕ) (why : Refusal) (old mid new : EngineState) (reply : Result Answer Refusal)
    → Step old (Seal id) (Err why) mid → Step mid (DropCopy id) reply new
    → Runs (λ events replies. SealsCopy id pages events replies (Call (Reply (Err why)))) old new
seals_not id pages why old mid new reply step dropped =
    runs_first (λ events replies. SealsCopy id pages events replies (Call (Reply (Err why)))) old mid new (Seal id)
    (Err why) tt step
    (runs_call (λ events replies. SealsCopy id pages (Seal id ∷ events) (Err why ∷ replies) (Call (Reply (Err why))))
    mid new (DropCopy id) reply tt dropped (not_sealed why reply))

-- ---- a copy that waits for its file

pub ends_by_seal : (id : ℕ) (old new : EngineState) (reply : Answer) → Step old (Seal id) (Ok reply) new
    → Runs (EndsBySeal id) old new
ends_by_seal id old new reply step =
    runs_call (EndsBySeal id) old new (Seal id) (Ok reply) tt step
    (record { before = []; calls = refl; given = []; answer = reply; told = refl })

-- calls before it change nothing of that
module _ (P : List Event → List (Result Answer Refusal) → Type 0) where
  ends_behind : (id : ℕ) (old mid new : EngineState) → Runs P old mid → Runs (EndsBySeal id) mid new
      → Runs (EndsBySeal id) old new
  ends_behind id old mid new =
      runs_both P (EndsBySeal id) (EndsBySeal id)
      (λ events more replies given first ends. record {
        before = events ++ ends.before;
        calls = ap (λ (them : List Event). events ++ them) ends.calls ∙ sym (append_assoc events ends.before (Seal id ∷ []));
        given = replies ++ ends.given;
        answer = ends.answer;
        told =
            ap (λ (them : List (Result Answer Refusal)). replies ++ them) ends.told
            ∙ sym (append_assoc replies ends.given (Ok ends.answer ∷ []));
      }) old mid new

  pub waits_behind : (id : ℕ) (said : CommandSaid) (stages : List Stage) (old mid new : EngineState) → Runs P old mid
      → WaitsUnlessCopied id said stages mid new → WaitsUnlessCopied id said stages old new
  waits_behind id (Copied other pages taken) stages old mid new first it = it
  waits_behind id (Call (Unplaced fault)) stages old mid new first it = (it.0, ends_behind id old mid new first it.1)
  waits_behind id (Call (Reply reply)) stages old mid new first it = tt
  waits_behind id (Flushed count) stages old mid new first it = tt

pub given_too : (id : ℕ) (said : CommandSaid) (stages : List Stage) (unread : List ℕ) (old new : EngineState)
    → WaitsUnlessCopied id said stages old new → ¬ Contains unread id → IsCopyGiven said unread
given_too id (Copied other pages taken) stages unread old new it none =
    subst (λ (other : ℕ). ¬ Contains unread other) (sym it.0) none
given_too id (Call said) stages unread old new it none = tt
given_too id (Flushed count) stages unread old new it none = tt

-- what is said of a call that begins a copy is said of no file
pub none_waits : (said : Said) (stages : List Stage) (old new : EngineState) → IsReply said
    → SomeCopyWaits (Call said) stages old new
none_waits (Reply reply) stages old new is = (0, tt)
none_waits (Unplaced fault) stages old new is = absurd is

-- one that is answered as complete does not
pub none_waits_then : (id : ℕ) (answer : Answer) (said : Said) (reply : Result Answer Refusal) (stages : List Stage)
    → said ≡ Reply reply → IsAnswerOr answer said → WaitsUnlessPlaced id said stages → ¬ Waits stages id
none_waits_then id answer said reply stages is says waits =
    let told : reply ≡ Ok answer = subst (IsAnswerOr answer) is says in
    subst (λ (it : Result Answer Refusal). WaitsUnlessPlaced id (Reply it) stages) told
    (subst (λ (it : Said). WaitsUnlessPlaced id it stages) is waits)

-- none is begun on one that waits
pub not_begun_on : (parent : Option ℕ) (stages : List Stage) (call : Said) (id : ℕ) (P : Type 0)
    → call ≡ Reply (Ok (answer.Copied id))
    → IfSome parent (λ it. Waits stages it → call ≡ Reply (Err CopyNotComplete))
    → IfSome parent (λ it. Waits stages it → P)
not_begun_on None stages call id P is stands = tt
not_begun_on (Some parent) stages call id P is stands = λ waits.
    absurd (subst IsAnswer (stands waits) (subst IsAnswer (sym is) tt))

-- nothing but a checkpoint was made where the parent waits
pub stands_behind : {S D : Type 0} (parent : Option ℕ) (said : CommandSaid) (stages : List Stage) (old : EngineState)
    (mid new : EngineView S D) → RunsBy IsOfCheckpoint IsAnyReply old mid.state
    → IfSome parent (λ it. Waits stages it → said ≡ Call (Reply (Err CopyNotComplete)))
    → IfSome parent (λ it. Waits stages it → new ≡ mid)
    → CopyStandsOnPlaced parent said stages old new.state
stands_behind None said stages old mid new runs stands same = tt
stands_behind (Some parent) said stages old mid new runs stands same = λ waits. (
  subst TellsNoCopy (sym (stands waits)) tt,
  subst (λ it. RunsBy IsOfCheckpoint IsAnyReply old it.state) (sym (same waits)) runs,
)

pub stands_not_begun : (parent : Option ℕ) (said : Said) (stages : List Stage) (old new : EngineState)
    → RunsBy IsOfCheckpoint IsAnyReply old new → CopyStandsOnPlaced parent (Call said) stages old new
stands_not_begun None said stages old new runs = tt
stands_not_begun (Some parent) said stages old new runs = λ waits. (tt, runs)

pub makes_runs : (event : Event) (said : Said) (old new : EngineState) → Makes event old said new
    → Runs (λ events replies. SaysOf event events replies said) old new
makes_runs event said old new made = record {
  events = made.events;
  replies = made.replies;
  fit = made.fit;
  run = made.run;
  holds = made.says;
}

-- ---- the whole of it

pub fills : (id pages : ℕ) (said : CommandSaid) (old mid new : EngineState) → Runs (TakesPages id pages) old mid
    → Runs (λ events replies. SealsCopy id pages events replies said) mid new
    → Runs (λ events replies. FillsCopy id events replies said) old new
fills id pages said old mid new =
    runs_both (TakesPages id pages) (λ events replies. SealsCopy id pages events replies said)
    (λ events replies. FillsCopy id events replies said)
    (λ events more replies given takes sealed. filled pages events more replies given said takes sealed) old mid new

pub fills_not : (id : ℕ) (why : Refusal) (old new : EngineState) → Runs (DropsCopy id why) old new
    → Runs (λ events replies. FillsCopy id events replies (Call (Reply (Err why)))) old new
fills_not id why old new =
    runs_weaker (DropsCopy id why) (λ events replies. FillsCopy id events replies (Call (Reply (Err why))))
    (λ events replies dropped. not_filled why events replies dropped) old new

pub begins_and_fills : (parent : Option ℕ) (id : ℕ) (call : Said) (said : CommandSaid) (old mid new : EngineState)
    → call ≡ Reply (Ok (answer.Copied id)) → Makes (copy_call parent) old call mid
    → Runs (λ events replies. FillsCopy id events replies said) mid new
    → Runs (λ events replies. BeginsAndFills parent events replies said) old new
begins_and_fills parent id call said old mid new is made fill =
    let begun = subst (λ (it : Said). Makes (copy_call parent) old it mid) is made in
    record {
      events = begun.events ++ fill.events;
      replies = begun.replies ++ fill.replies;
      fit = All-append EventFits begun.events fill.events begun.fit fill.fit;
      run = run_append old mid new begun.events fill.events begun.replies fill.replies begun.run fill.run;
      holds = begun_and_filled id begun.events fill.events begun.replies fill.replies said begun.says fill.holds;
    }

pub begins_not : (parent : Option ℕ) (call : Said) (old new : EngineState)
    → ((id : ℕ) → call ≢ Reply (Ok (answer.Copied id))) → Makes (copy_call parent) old call new
    → Runs (λ events replies. BeginsAndFills parent events replies (Call call)) old new
begins_not parent call old new none made = record {
  events = made.events;
  replies = made.replies;
  fit = made.fit;
  run = made.run;
  holds = not_begun call made.events made.replies made.says none;
}

module _ (parent : Option ℕ) (said : CommandSaid) where
  pub copies_at_once : (old new : EngineState) → Runs (λ events replies. BeginsAndFills parent events replies said) old new
      → MakesCommand (Copy parent) old (one_line said) new
  copies_at_once old new =
      runs_weaker (λ events replies. BeginsAndFills parent events replies said)
      (λ events replies. SaysOfCommand (Copy parent) events replies (one_line said))
      (λ events replies fill. copied parent events replies said fill) old new

  pub copies_behind : (reply : Result Answer Refusal) (point : Answer) (old mid new : EngineState) → reply ≡ Ok point
      → MakesCommand Checkpoint old (one_line (Call (Reply reply))) mid
      → Runs (λ events replies. BeginsAndFills parent events replies said) mid new
      → MakesCommand (Copy parent) old (one_line said) new
  copies_behind reply point old mid new is made fill =
      runs_both (λ events replies. SaysOfCommand Checkpoint events replies (one_line (Call (Reply (Ok point)))))
      (λ events replies. BeginsAndFills parent events replies said)
      (λ events replies. SaysOfCommand (Copy parent) events replies (one_line said))
      (λ events more replies given made fill. copied_behind parent events more replies given point said made fill)
      old mid new
      (subst (λ (it : Result Answer Refusal). MakesCommand Checkpoint old (one_line (Call (Reply it))) mid) is made) fill

pub copies_not : (parent : Option ℕ) (said : Said) (old new : EngineState) → ¬ IsAnswer said
    → MakesCommand Checkpoint old (one_line (Call said)) new → MakesCommand (Copy parent) old (one_line (Call said)) new
copies_not parent said old new none =
    runs_weaker (λ events replies. SaysOfCommand Checkpoint events replies (one_line (Call said)))
    (λ events replies. SaysOfCommand (Copy parent) events replies (one_line (Call said)))
    (λ events replies made. not_behind parent events replies said made none) old new

pub copies_refused : (parent : Option ℕ) (reply : Result Answer Refusal) (why : Refusal) (old new : EngineState)
    → reply ≡ Err why → MakesCommand Checkpoint old (one_line (Call (Reply reply))) new
    → MakesCommand (Copy parent) old (one_line (Call (Reply (Err why)))) new
copies_refused parent reply why old new is made =
    copies_not parent (Reply (Err why)) old new (λ none. none)
    (subst (λ (it : Result Answer Refusal). MakesCommand Checkpoint old (one_line (Call (Reply it))) new) is made)

-- ---- a checkpoint and a copy of a command

point_told : (said : Said) → IsAnswer said → (point : Answer) × (said ≡ Reply (Ok point))
point_told (Reply (Ok answer)) is = (answer, refl)
point_told (Reply (Err why)) is = absurd is
point_told (Unplaced fault) is = absurd is

pub copies_behind_point : (parent copied : Option ℕ) (call : Said) (said : CommandSaid) (old mid new : EngineState)
    → IsToldWell (Call call) → IfSome copied (λ id. IsCopied id said)
    → MakesCommand Checkpoint old (one_line (Call call)) mid → IsCleanFor Checkpoint old (one_line (Call call)) mid
    → MakesCommand (Copy parent) mid (one_line said) new → IfSome copied (λ id. CopiesBehindPoint parent id old new)
copies_behind_point parent None call said old mid new well which first clean made = tt
copies_behind_point parent (Some id) call said old mid new well which first clean made =
    let point = point_told call well in
    record {
      between = mid;
      point = point.0;
      checkpoint = subst (λ (it : Said). MakesCommand Checkpoint old (one_line (Call it)) mid) point.1 first;
      clean = subst (λ (it : Said). IsCleanFor Checkpoint old (one_line (Call it)) mid) point.1 clean;
      said = said;
      copied = which;
      copy = made;
    }

-- the lines of both were written
pub tells_copy : (copied : Option ℕ) (call : Said) (said : CommandSaid) (before between after : Option (List ℕ))
    → IsToldWell (Call call) → IfSome copied (λ id. IsCopied id said)
    → Appends before between (text_of (one_line (Call call))) → Appends between after (text_of (one_line said))
    → IfSome copied (λ id. TellsCopy id before after)
tells_copy None call said before between after well which first last = tt
tells_copy (Some id) call said before between after well which first last =
    let point = point_told call well in
    record {
      between = between;
      point = point.0;
      first = subst (λ (it : Said). Appends before between (text_of (one_line (Call it)))) point.1 first;
      said = said;
      copied = which;
      last = last;
    }
