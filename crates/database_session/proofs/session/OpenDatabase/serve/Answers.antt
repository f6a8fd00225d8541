use Rattle.std.proofs.Common.{◌≡◌, ◌+◌, ℕ, List, refl, subst, sym, take}
use Rattle.std.specs.Prelude.{Err, Option}
use Rattle.session_lines.proofs.Public.{IsTaken}
use Rattle.database_session.proofs.Served.{HasServed, handed_on, left_more, left_unread, left_untaken}
use Rattle.database_session.proofs.Served.{served_all, served_more, served_nothing}
use Rattle.session_lines.specs.Lines.{GivesUntilQuit, bytes_left, too_long, unended, whole}
use Rattle.database_session.specs.Session.{LeavesServed}
use Rattle.session_lines.specs.declared.bad_call.LineTrouble.TheVariants.{TooLong}
use Rattle.session_lines.specs.declared.line_reader.NextLine.TheVariants as next
use Rattle.session_lines.specs.declared.serve_fault.ServeFault.TheVariants.{OutOfMemory}
use Rattle.database_session.proofs.session.OpenDatabase.serve.Goals as goal
use Rattle.database_session.proofs.session.OpenDatabase.serve.Goals.{in-Line+in_ok-said_in-in-Line+in_ok-take_line-in-Line, in-Unended+in_ok-said_unended-in-Unended+in_ok-take_line-in-Unended, in-TooLong+in_ok-take_line-in-TooLong}

-- a line that stands in the buffer was taken
whole_taken : (old new : Option (List ℕ)) (line buffer : List ℕ) (len : ℕ) → line ≡ take len buffer
    → GivesUntilQuit old new buffer (next.Line len) → IsTaken old new (whole line)
whole_taken old new line buffer len is given =
    subst (λ (l : List ℕ). IsTaken old new (whole l)) (sym is) (given.0.1, given.1)

unended_taken : (old new : Option (List ℕ)) (line buffer : List ℕ) (len : ℕ) → line ≡ take len buffer
    → GivesUntilQuit old new buffer (next.Unended len) → IsTaken old new (unended line)
unended_taken old new line buffer len is given =
    subst (λ (l : List ℕ). IsTaken old new (unended l)) (sym is) (given.1, λ none. none)

pub loop-number-init : goal.loop-number-init
loop-number-init g c = (
  c.requires,
  served_nothing (bytes_left g.R.Read.remaining c.args.lines.now) c.args.self.now.engine.state
      (g.W.Write.contents c.args.writer.now),
)

pub returns-in-End-clause-served : goal.returns-in-End-clause-served
returns-in-End-clause-served g c =
    served_all (bytes_left g.R.Read.remaining c.args.lines.now) (bytes_left g.R.Read.remaining c.loop-number.lines)
    c.loop-number.number c.args.self.now.engine.state c.loop-number.self.engine.state
    (g.W.Write.contents c.args.writer.now) (g.W.Write.contents c.loop-number.writer) c.loop-number.invariant.1
    c.in-End.ensures

pub returns-in-Failed-clause-left : goal.returns-in-Failed-clause-left
returns-in-Failed-clause-left g c =
    left_unread (bytes_left g.R.Read.remaining c.args.lines.now) (bytes_left g.R.Read.remaining c.loop-number.lines)
    c.loop-number.number c.args.self.now.engine.state c.loop-number.self.engine.state
    (g.W.Write.contents c.args.writer.now) (g.W.Write.contents c.loop-number.writer) c.loop-number.invariant.1

pub returns-clause-left : goal.returns-clause-left
returns-clause-left g c =
    left_unread (bytes_left g.R.Read.remaining c.args.lines.now) (bytes_left g.R.Read.remaining c.loop-number.lines)
    c.loop-number.number c.args.self.now.engine.state c.loop-number.self.engine.state
    (g.W.Write.contents c.args.writer.now) (g.W.Write.contents c.loop-number.writer) c.loop-number.invariant.1

pub returns-in_err-said_in-in-Line-clause-left : goal.returns-in_err-said_in-in-Line-clause-left
returns-in_err-said_in-in-Line-clause-left g c =
    let start = bytes_left g.R.Read.remaining c.args.lines.now in
    handed_on c.from_residual.result OutOfMemory
    (LeavesServed start c.args.self.now.engine.state c.loop-number.self.engine.state (g.W.Write.contents
    c.args.writer.now)
    (g.W.Write.contents c.loop-number.writer))
    c.from_residual.ensures.1
    (left_untaken start (bytes_left g.R.Read.remaining c.loop-number.lines)
    (bytes_left g.R.Read.remaining c.next_until_quit.new.self) c.loop-number.number
    c.args.self.now.engine.state c.loop-number.self.engine.state (g.W.Write.contents c.args.writer.now)
    (g.W.Write.contents c.loop-number.writer) (whole c.line-line.result.now)
    c.loop-number.invariant.1 (whole_taken (bytes_left g.R.Read.remaining c.loop-number.lines) (bytes_left
    g.R.Read.remaining c.next_until_quit.new.self) c.line-line.result.now c.next_until_quit.new.self.line.items
    c.in-Line.len c.line-line.ensures c.in-Line.ensures))

pub returns-in_err-said_unended-in-Unended-clause-left : goal.returns-in_err-said_unended-in-Unended-clause-left
returns-in_err-said_unended-in-Unended-clause-left g c =
    let start = bytes_left g.R.Read.remaining c.args.lines.now in
    handed_on c.from_residual-in_err-said_unended-in-Unended.result OutOfMemory
    (LeavesServed start c.args.self.now.engine.state c.loop-number.self.engine.state (g.W.Write.contents
    c.args.writer.now)
    (g.W.Write.contents c.loop-number.writer))
    c.from_residual-in_err-said_unended-in-Unended.ensures.1
    (left_untaken start (bytes_left g.R.Read.remaining c.loop-number.lines)
    (bytes_left g.R.Read.remaining c.next_until_quit.new.self) c.loop-number.number
    c.args.self.now.engine.state c.loop-number.self.engine.state (g.W.Write.contents c.args.writer.now)
    (g.W.Write.contents c.loop-number.writer) (unended c.line-line-in-Unended.result.now)
    c.loop-number.invariant.1 (unended_taken (bytes_left g.R.Read.remaining c.loop-number.lines) (bytes_left
    g.R.Read.remaining c.next_until_quit.new.self) c.line-line-in-Unended.result.now
    c.next_until_quit.new.self.line.items c.in-Unended.len c.line-line-in-Unended.ensures c.in-Unended.ensures))

pub returns-in_err-take_line-in-Line-clause-left : goal.returns-in_err-take_line-in-Line-clause-left
returns-in_err-take_line-in-Line-clause-left g c =
    let start = bytes_left g.R.Read.remaining c.args.lines.now in
    let after = g.W.Write.contents c.take_line.new.writer in
    handed_on c.from_residual-in_err-take_line-in-Line.result c.in_err-take_line-in-Line.field-0.0
    (LeavesServed start c.args.self.now.engine.state c.take_line.new.self.engine.state (g.W.Write.contents
    c.args.writer.now) after)
    c.from_residual-in_err-take_line-in-Line.ensures.1
    (left_more start (bytes_left g.R.Read.remaining c.loop-number.lines)
    (bytes_left g.R.Read.remaining c.next_until_quit.new.self) c.loop-number.number
    c.args.self.now.engine.state c.loop-number.self.engine.state c.take_line.new.self.engine.state (g.W.Write.contents
    c.args.writer.now)
    (g.W.Write.contents c.loop-number.writer) after (whole c.line-line.result.now)
    (g.F.Folder.entries c.take_line.new.self.folder) (g.F.Folder.is_stored c.take_line.new.self.folder)
    c.loop-number.invariant.1 (whole_taken (bytes_left g.R.Read.remaining c.loop-number.lines) (bytes_left
    g.R.Read.remaining c.next_until_quit.new.self) c.line-line.result.now c.next_until_quit.new.self.line.items
    c.in-Line.len c.line-line.ensures c.in-Line.ensures) c.in_ok-said_in-in-Line.field-0
    c.in_ok-said_in-in-Line.ensures
    c.in_err-take_line-in-Line.field-0.0 c.in_err-take_line-in-Line.ensures.left)

pub returns-in_err-take_line-in-Unended-clause-left : goal.returns-in_err-take_line-in-Unended-clause-left
returns-in_err-take_line-in-Unended-clause-left g c =
    let start = bytes_left g.R.Read.remaining c.args.lines.now in
    let after = g.W.Write.contents c.take_line-in-Unended.new.writer in
    handed_on c.from_residual-in_err-take_line-in-Unended.result c.in_err-take_line-in-Unended.field-0.0
    (LeavesServed start c.args.self.now.engine.state c.take_line-in-Unended.new.self.engine.state (g.W.Write.contents
    c.args.writer.now) after)
    c.from_residual-in_err-take_line-in-Unended.ensures.1
    (left_more start (bytes_left g.R.Read.remaining c.loop-number.lines)
    (bytes_left g.R.Read.remaining c.next_until_quit.new.self) c.loop-number.number
    c.args.self.now.engine.state c.loop-number.self.engine.state c.take_line-in-Unended.new.self.engine.state
    (g.W.Write.contents c.args.writer.now)
    (g.W.Write.contents c.loop-number.writer) after (unended c.line-line-in-Unended.result.now)
    (g.F.Folder.entries c.take_line-in-Unended.new.self.folder) (g.F.Folder.is_stored
    c.take_line-in-Unended.new.self.folder)
    c.loop-number.invariant.1 (unended_taken (bytes_left g.R.Read.remaining c.loop-number.lines) (bytes_left
    g.R.Read.remaining c.next_until_quit.new.self) c.line-line-in-Unended.result.now
    c.next_until_quit.new.self.line.items c.in-Unended.len c.line-line-in-Unended.ensures c.in-Unended.ensures)
    c.in_ok-said_unended-in-Unended.field-0
    c.in_ok-said_unended-in-Unended.ensures
    c.in_err-take_line-in-Unended.field-0.0 c.in_err-take_line-in-Unended.ensures.left)

pub returns-in_err-take_line-in-TooLong-clause-left : goal.returns-in_err-take_line-in-TooLong-clause-left
returns-in_err-take_line-in-TooLong-clause-left g c =
    let start = bytes_left g.R.Read.remaining c.args.lines.now in
    let after = g.W.Write.contents c.take_line-in-TooLong.new.writer in
    handed_on c.from_residual-in_err-take_line-in-TooLong.result c.in_err-take_line-in-TooLong.field-0.0
    (LeavesServed start c.args.self.now.engine.state c.take_line-in-TooLong.new.self.engine.state (g.W.Write.contents
    c.args.writer.now) after)
    c.from_residual-in_err-take_line-in-TooLong.ensures.1
    (left_more start (bytes_left g.R.Read.remaining c.loop-number.lines)
    (bytes_left g.R.Read.remaining c.next_until_quit.new.self) c.loop-number.number
    c.args.self.now.engine.state c.loop-number.self.engine.state c.take_line-in-TooLong.new.self.engine.state
    (g.W.Write.contents c.args.writer.now)
    (g.W.Write.contents c.loop-number.writer) after too_long
    (g.F.Folder.entries c.take_line-in-TooLong.new.self.folder) (g.F.Folder.is_stored
    c.take_line-in-TooLong.new.self.folder)
    c.loop-number.invariant.1 (c.in-TooLong.ensures, λ none. none) (Err TooLong)
    refl
    c.in_err-take_line-in-TooLong.field-0.0 c.in_err-take_line-in-TooLong.ensures.left)

pub keep_placed-requires : goal.keep_placed-requires
keep_placed-requires g c = elim c.match-next_until_quit.branch [
  | in-Line+in_ok-said_in-in-Line+in_ok-take_line-in-Line w ↦ subst (λ s. g.F.Folder.is_claimed s.folder) (sym w.self-is) w.take_line.ensures.claimed
  | in-Unended+in_ok-said_unended-in-Unended+in_ok-take_line-in-Unended w ↦ subst (λ s. g.F.Folder.is_claimed s.folder) (sym w.self-is) w.take_line-in-Unended.ensures.claimed
  | in-TooLong+in_ok-take_line-in-TooLong w ↦ subst (λ s. g.F.Folder.is_claimed s.folder) (sym w.self-is) w.take_line-in-TooLong.ensures.claimed
]

pub loop-number-preserved : goal.loop-number-preserved
loop-number-preserved g c =
    let start = bytes_left g.R.Read.remaining c.args.lines.now in
    let reached = bytes_left g.R.Read.remaining c.loop-number.lines in
    let left = bytes_left g.R.Read.remaining c.next_until_quit.new.self in
    let old = c.args.self.now.engine.state in
    let before = g.W.Write.contents c.args.writer.now in (
      c.keep_placed.ensures.claimed,
      subst (λ engine. HasServed start left (c.loop-number.number + 1) old engine.state before
          (g.W.Write.contents c.match-next_until_quit.writer)) (sym c.keep_placed.ensures.engine) (
          elim c.match-next_until_quit.branch [
            | in-Line+in_ok-said_in-in-Line+in_ok-take_line-in-Line w ↦
                subst (λ s. HasServed start left (c.loop-number.number + 1) old s.engine.state before
                (g.W.Write.contents c.match-next_until_quit.writer)) (sym w.self-is)
                (subst (λ v. HasServed start left (c.loop-number.number + 1) old w.take_line.new.self.engine.state
                before
                (g.W.Write.contents v)) (sym w.writer-is)
                (served_more start reached left c.loop-number.number old c.loop-number.self.engine.state
                w.take_line.new.self.engine.state before (g.W.Write.contents c.loop-number.writer)
                (g.W.Write.contents w.take_line.new.writer) (whole w.line-line.result.now)
                (g.F.Folder.entries w.take_line.new.self.folder) (g.F.Folder.is_stored w.take_line.new.self.folder)
                c.loop-number.invariant.1 (whole_taken reached left w.line-line.result.now
                c.next_until_quit.new.self.line.items w.in-Line.len w.line-line.ensures w.in-Line.ensures)
                w.in_ok-said_in-in-Line.field-0
                w.in_ok-said_in-in-Line.ensures
                w.in_ok-take_line-in-Line.ensures.taken))
            | in-Unended+in_ok-said_unended-in-Unended+in_ok-take_line-in-Unended w ↦
                subst (λ s. HasServed start left (c.loop-number.number + 1) old s.engine.state before
                (g.W.Write.contents c.match-next_until_quit.writer)) (sym w.self-is)
                (subst (λ v. HasServed start left (c.loop-number.number + 1) old
                w.take_line-in-Unended.new.self.engine.state before
                (g.W.Write.contents v)) (sym w.writer-is)
                (served_more start reached left c.loop-number.number old c.loop-number.self.engine.state
                w.take_line-in-Unended.new.self.engine.state before (g.W.Write.contents c.loop-number.writer)
                (g.W.Write.contents w.take_line-in-Unended.new.writer) (unended w.line-line-in-Unended.result.now)
                (g.F.Folder.entries w.take_line-in-Unended.new.self.folder) (g.F.Folder.is_stored
                w.take_line-in-Unended.new.self.folder)
                c.loop-number.invariant.1 (unended_taken reached left w.line-line-in-Unended.result.now
                c.next_until_quit.new.self.line.items w.in-Unended.len w.line-line-in-Unended.ensures
                w.in-Unended.ensures)
                w.in_ok-said_unended-in-Unended.field-0
                w.in_ok-said_unended-in-Unended.ensures
                w.in_ok-take_line-in-Unended.ensures.taken))
            | in-TooLong+in_ok-take_line-in-TooLong w ↦
                subst (λ s. HasServed start left (c.loop-number.number + 1) old s.engine.state before
                (g.W.Write.contents c.match-next_until_quit.writer)) (sym w.self-is)
                (subst (λ v. HasServed start left (c.loop-number.number + 1) old
                w.take_line-in-TooLong.new.self.engine.state before
                (g.W.Write.contents v)) (sym w.writer-is)
                (served_more start reached left c.loop-number.number old c.loop-number.self.engine.state
                w.take_line-in-TooLong.new.self.engine.state before (g.W.Write.contents c.loop-number.writer)
                (g.W.Write.contents w.take_line-in-TooLong.new.writer) too_long
                (g.F.Folder.entries w.take_line-in-TooLong.new.self.folder) (g.F.Folder.is_stored
                w.take_line-in-TooLong.new.self.folder)
                c.loop-number.invariant.1 (w.in-TooLong.ensures, λ none. none)
                (Err TooLong)
                refl
                w.in_ok-take_line-in-TooLong.ensures.taken))
          ]),
    )
