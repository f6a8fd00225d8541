-- The laws of this crate that proofs of the crates above it cite. Its other lemmas are its own.

-- A version of the formats is known by its character.
pub use Rattle.page_core.proofs.Formats.{same_format}
-- What a reader gave, and what it had.
pub use Rattle.page_core.proofs.Inputs.{always_ok, at_some, if_err, known_more, of_all, of_input}
pub use Rattle.page_core.proofs.Inputs.{of_rest, on_ok}
-- The bytes of a page, field by field.
pub use Rattle.page_core.proofs.PageBytes.{length-page_bytes, pages_apart, same_pages}
-- Lists that are joined of pieces, as a page is of fields and a volume of pages.
pub use Rattle.page_core.proofs.Pieces.{HaveLength, grow, into, length-pieces, take-drop-pieces}
-- The pages of a new volume, and of one that has grown.
pub use Rattle.page_core.proofs.Volumes.{length-grown_to, new_grown, numbered-formatted_pages}
pub use Rattle.page_core.proofs.Volumes.{numbered-grown_to}
