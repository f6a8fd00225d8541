-- The dirty pages that a record has.
use Rattle.std.specs.Prelude.{List, [], ◌∷◌}
use Rattle.log_records.specs.declared.dirty_page.DirtyPage.{DirtyPage}
use Rattle.log_records.specs.declared.dirty_page.DirtyPages.{DirtyPages}
use Rattle.log_records.specs.declared.dirty_page.DirtyPages.TheVariants.{One, Two, Three}

-- the entries of one to three dirty pages
abbrev pub entries_of : DirtyPages → List DirtyPage
entries_of (One a) = a ∷ []
entries_of (Two a b) = a ∷ b ∷ []
entries_of (Three a b c) = a ∷ b ∷ c ∷ []
