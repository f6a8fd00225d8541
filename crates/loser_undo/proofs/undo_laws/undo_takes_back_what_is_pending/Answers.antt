use Rattle.loser_undo.proofs.Falling.{lost_fall, lost_of_each, lost_of_open}
use Rattle.loser_undo.proofs.Rising.{lsns_rise}
use Rattle.loser_undo.proofs.undo_laws.undo_takes_back_what_is_pending.Goals as goal

pub returns : goal.returns
returns c = record {
  falling = λ log valid. lost_fall log.records (lsns_rise log valid);
  each = lost_of_each;
  losers = lost_of_open;
}
