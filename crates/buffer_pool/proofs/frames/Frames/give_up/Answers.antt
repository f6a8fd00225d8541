use Rattle.std.proofs.Common.{◌∙◌, ap, set, subst, sym}
use Rattle.std.specs.Prelude.{IsSome, None, is_some, slice_index_or}
use Rattle.buffer_pool.specs.Frames.{FramesView, given_up}
use Rattle.buffer_pool.specs.Marks.{PassesNone}
use Rattle.buffer_pool.specs.Pool.{is_clean_in}
use Rattle.buffer_pool.specs.Slots.{pages_in}
use Rattle.buffer_pool.proofs.Holes.{found_page, given_up_found, given_up_none, pages_trimmed}
use Rattle.buffer_pool.proofs.Sought.{sought_less, sought_trimmed}
use Rattle.buffer_pool.proofs.frames.Frames.give_up.Goals as goal

pub returns-in_err-place-clause-pages : goal.returns-in_err-place-clause-pages
returns-in_err-place-clause-pages c =
    sym (given_up_none (is_clean_in c.args.states.now) c.args.self.now.pages
    (sym c.first_clean.ensures.found ∙ ap is_some c.in_err-place.was))

pub take-frame-requires-clause-taken : goal.take-frame-requires-clause-taken
take-frame-requires-clause-taken c =
    subst (λ (v : FramesView). IsSome (slice_index_or v.slots c.in_ok-place.place None)) (sym c.self.view_is)
    (found_page (is_clean_in c.args.states.now) c.args.self.now.slots c.in_ok-place.place None
    (sym c.in_ok-place.ensures.place))

pub returns-clause-pages : goal.returns-clause-pages
returns-clause-pages c =
    let clean = is_clean_in c.args.states.now in
    let slots = c.args.self.now.slots in
    pages_trimmed c.take-frame.new.self.list c.trim.new.self.list c.trim.ensures.list
    ∙ ap pages_in c.take-frame.ensures.list
    ∙ ap (λ (v : FramesView). pages_in (set v.slots c.in_ok-place.place None)) c.self.view_is
    ∙ sym (given_up_found clean slots c.in_ok-place.place (sym c.in_ok-place.ensures.place))
    ∙ ap (λ (v : FramesView). given_up clean (pages_in v.slots)) (sym c.self.view_is)
    ∙ ap (λ (v : FramesView). given_up clean v.pages) c.self.view_is

pub returns-clause-frame : goal.returns-clause-frame
returns-clause-frame c =
    ap is_some c.take-frame.ensures.frame
    ∙ subst (λ (v : FramesView). IsSome (slice_index_or v.slots c.in_ok-place.place None)) (sym c.self.view_is)
    (found_page (is_clean_in c.args.states.now) c.args.self.now.slots c.in_ok-place.place None
    (sym c.in_ok-place.ensures.place))
    ∙ sym (ap is_some c.in_ok-place.was) ∙ c.first_clean.ensures.found

pub returns-clause-sought : goal.returns-clause-sought
returns-clause-sought c =
    let clean = is_clean_in c.args.states.now in
    sought_trimmed clean c.take-frame.new.self.list c.trim.new.self.list c.clear.new.self c.trim.ensures.list
    (sought_less clean c.self.inside.slots.list c.take-frame.new.self.list c.in_ok-place.place c.self.inside.marks
    c.clear.new.self c.take-frame.ensures.list
    (subst (λ (v : FramesView). PassesNone clean v.slots v.marks) (sym c.self.view_is) c.requires.sought)
    c.clear.ensures)
