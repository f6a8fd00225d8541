-- The bytes of master records.
use Rattle.std.proofs.Common.{◌≡◌, ℕ, List, length, refl, sym, ap, ◌∙◌}
use Rattle.std.specs.Prelude.{slice_range}
use Rattle.std.specs.Int.{w64, to_le_bytes, from_le_bytes}
use Rattle.std.proofs.lemmas.Nat.{from_le_bytes-to_le_bytes_8}
use Rattle.log_store.specs.declared.master.Master.{Master}
use Rattle.log_store.specs.Master.{SpellsMaster, master_bytes}

pub length-master_bytes : (m : Master) → length (master_bytes m) ≡ 64
unfolding master_bytes
length-master_bytes m = refl

pub begin_at : (m : Master) → slice_range (master_bytes m) 8 16 ≡ to_le_bytes w64 m.begin
unfolding master_bytes
begin_at m = refl

pub end_at : (m : Master) → slice_range (master_bytes m) 16 24 ≡ to_le_bytes w64 m.end
unfolding master_bytes
end_at m = refl

-- the master record in these bytes
master_in : List ℕ → Master
master_in bytes = record {
  begin = from_le_bytes w64 (slice_range bytes 8 16);
  end = from_le_bytes w64 (slice_range bytes 16 24);
}

master_again : (m : Master) (bytes : List ℕ) → SpellsMaster m bytes → master_in (master_bytes m) ≡ m
unfolding master_in master_bytes
master_again m bytes spells = λ i. record {
  begin = from_le_bytes-to_le_bytes_8 m.begin spells.valid.begin.fits i;
  end = from_le_bytes-to_le_bytes_8 m.end spells.valid.end.fits i;
}

pub same_master : (a b : Master) (bytes : List ℕ) → SpellsMaster a bytes → SpellsMaster b bytes → a ≡ b
same_master a b bytes a_spells b_spells =
    sym (master_again a bytes a_spells) ∙ ap master_in (sym a_spells.spelled ∙ b_spells.spelled)
    ∙ master_again b bytes b_spells
