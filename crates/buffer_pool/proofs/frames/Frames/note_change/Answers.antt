use Rattle.buffer_pool.proofs.frames.Frames.note_change.Goals as goal

pub returns-then-was_clean-clause-sought : goal.returns-then-was_clean-clause-sought
returns-then-was_clean-clause-sought c = λ clean sought others dirty. c.note.ensures.sought clean sought others
