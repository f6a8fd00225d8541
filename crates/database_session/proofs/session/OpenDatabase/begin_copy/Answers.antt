use Rattle.std.proofs.Common.{◌+◌, arith, refl, rules, subst, ◌∙◌}
use Rattle.std.specs.Prelude.{Result}
use Rattle.std.specs.List.{Contains}
use Rattle.engine_calls.specs.declared.event.Answer.{Answer}
use Rattle.engine_calls.specs.declared.refusal.Refusal.{Refusal}
use Rattle.engine_rules.specs.Step.{Step}
use Rattle.database_session.proofs.CopyCalls.{begins_last, begins_once, passed_few, passed_more, passed_none}
use Rattle.database_session.specs.Calls.{copy_call}
use Rattle.database_session.proofs.session.OpenDatabase.begin_copy.Goals as goal
use Rattle.database_session.proofs.session.OpenDatabase.begin_copy.Goals.{else-loop-test, then-loop-test+in-Some+else-counter-end}

pub loop-init : goal.loop-init
loop-init g c = (
  passed_none c.args.parent c.args.self.now.unread.items c.args.self.now.engine.state,
  refl,
  refl,
  omega (arith),
)

pub returns-in_default-clause-made : goal.returns-in_default-clause-made
returns-in_default-clause-made g c =
    begins_last c.args.parent c.args.self.now.unread.items c.loop.counter c.args.self.now.engine.state
    c.loop.self.engine.state c.begun-reply.new.self.engine.state c.begun-reply.result c.loop.invariant.0
    c.begun-reply.ensures.step

pub returns-in_default-clause-once : goal.returns-in_default-clause-once
returns-in_default-clause-once g c =
    begins_once c.args.parent c.args.self.now.unread.items c.loop.counter c.args.self.now.engine.state
    c.loop.self.engine.state c.begun-reply.new.self.engine.state c.begun-reply.result c.loop.invariant.0
    c.begun-reply.ensures.step

pub loop-preserved : goal.loop-preserved
loop-preserved g c =
    let is_unread : Contains c.args.self.now.unread.items c.in-Some.id = search rules in
    let passed =
    passed_more c.args.parent c.args.self.now.unread.items c.loop.counter c.args.self.now.engine.state
    c.loop.self.engine.state c.begun-reply.new.self.engine.state c.apply.new.self.state c.in-Some.id c.apply.result
    c.loop.invariant.0 is_unread
    (subst (λ (r : Result Answer Refusal). Step c.loop.self.engine.state (copy_call c.args.parent) r
    c.begun-reply.new.self.engine.state) c.in-Some.ensures.found c.begun-reply.ensures.step) c.apply.ensures.step in
    let few =
    passed_few c.args.parent c.args.self.now.unread.items (c.loop.counter + 1) c.args.self.now.engine.state
    c.apply.new.self.state passed in
    (passed, c.begun-reply.ensures.folder ∙ c.loop.invariant.1, c.begun-reply.ensures.unread ∙ c.loop.invariant.2, few)

pub returns-clause-made : goal.returns-clause-made
returns-clause-made g c = elim c.loop-test.branch [
  | else-loop-test w ↦ absurd (omega (arith, c.loop.invariant.3))
  | then-loop-test+in-Some+else-counter-end w ↦
      let here : Contains w.deref.result.now w.in-Some.id = search (rules, w.if-contains.ensures.cases) in
      let is_unread : Contains c.args.self.now.unread.items w.in-Some.id =
      search (rules, here, w.deref.ensures.value, w.begun-reply.ensures.unread, c.loop.invariant.2) in
      let passed =
      passed_more c.args.parent c.args.self.now.unread.items c.loop.counter c.args.self.now.engine.state
      c.loop.self.engine.state w.begun-reply.new.self.engine.state w.apply.new.self.state w.in-Some.id w.apply.result
      c.loop.invariant.0 is_unread
      (subst (λ (r : Result Answer Refusal). Step c.loop.self.engine.state (copy_call c.args.parent) r
      w.begun-reply.new.self.engine.state) w.in-Some.ensures.found w.begun-reply.ensures.step) w.apply.ensures.step in
      let few =
      passed_few c.args.parent c.args.self.now.unread.items (c.loop.counter + 1) c.args.self.now.engine.state
      w.apply.new.self.state passed in
      absurd (omega (arith, few))
]

pub returns-clause-once : goal.returns-clause-once
returns-clause-once g c = elim c.loop-test.branch [
  | else-loop-test w ↦ absurd (omega (arith, c.loop.invariant.3))
  | then-loop-test+in-Some+else-counter-end w ↦
      let here : Contains w.deref.result.now w.in-Some.id = search (rules, w.if-contains.ensures.cases) in
      let is_unread : Contains c.args.self.now.unread.items w.in-Some.id =
      search (rules, here, w.deref.ensures.value, w.begun-reply.ensures.unread, c.loop.invariant.2) in
      let passed =
      passed_more c.args.parent c.args.self.now.unread.items c.loop.counter c.args.self.now.engine.state
      c.loop.self.engine.state w.begun-reply.new.self.engine.state w.apply.new.self.state w.in-Some.id w.apply.result
      c.loop.invariant.0 is_unread
      (subst (λ (r : Result Answer Refusal). Step c.loop.self.engine.state (copy_call c.args.parent) r
      w.begun-reply.new.self.engine.state) w.in-Some.ensures.found w.begun-reply.ensures.step) w.apply.ensures.step in
      let few =
      passed_few c.args.parent c.args.self.now.unread.items (c.loop.counter + 1) c.args.self.now.engine.state
      w.apply.new.self.state passed in
      absurd (omega (arith, few))
]
