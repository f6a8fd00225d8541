use Rattle.std.proofs.Common.{◌≡◌, Some, List, [], subst, sym, arith}
use Rattle.std.proofs.lemmas.List.{nil_from_length}
use Rattle.std.proofs.lemmas.List.Elements.{All-pop}
use Rattle.page_claim.specs.declared.seats.ClaimSeat.{ClaimSeat}
use Rattle.page_claim.specs.Claims.{HasJoined, IsLastWord, IsSeatOf, view_of}
use Rattle.page_claim.proofs.Joined.{joined_first, last_word, last_word_alone}
use Rattle.page_claim.proofs.seats.PageClaims.last_word.Goals as goal

pub returns-in_default : goal.returns-in_default
returns-in_default c =
    let none = rw c.in_default.is at c.pop.ensures.cases in
    let empty : c.args.seats.items ≡ [] = nil_from_length _ (omega (arith, c.args.seats.ok.0, none.0)) in
    let last = c.close.ensures.values.2 in
    subst (λ (seats : List ClaimSeat). IsLastWord c.args.self seats c.word_of.result) (sym empty)
    (last_word_alone c.args.self last.0 last.1 _ last.2 c.word_of.result c.word_of.ensures)

pub join_all-requires-clause-seats : goal.join_all-requires-clause-seats
join_all-requires-clause-seats c = (All-pop (IsSeatOf c.args.self) _ _ (Some c.in-Some.first) c.in-Some.ensures.items c.requires).0

pub returns : goal.returns
returns c =
    let last = c.close_with.ensures.values.2 in
    let joined = c.join_all.ensures.joined c.args.seats.items
    (subst (λ (all : List ClaimSeat). HasJoined (view_of c.in-Some.first) c.pop.new.self.items all) (sym c.in-Some.ensures.items) (joined_first _ _)) in
    last_word c.args.self last.0 last.1.0 _ last.2 c.word_of-2.result c.word_of-2.ensures _ _ _ last.1.1 joined
