use Rattle.std.proofs.Common.{refl, ◌≡◌, ◌∙◌, ap}
use Rattle.std.specs.Int.{w32, w64, to_le_bytes}
use Rattle.page_core.specs.Format.{digit_of}
use Rattle.copy_vault.specs.declared.header.ArchiveHeader.{ArchiveHeader}
use Rattle.copy_vault.specs.Archive.{header_bytes, kind_number, parent_of}
use Rattle.copy_vault.proofs.header_codec.encode_header.Goals as goal

pub returns : goal.returns
unfolding header_bytes
returns c =
    let header = c.args.header.now in
    let pages : c.copy_from_slice-2.new.self ≡ to_le_bytes w32 header.pages = c.copy_from_slice-2.ensures.after
    ∙ c.to_le_bytes.ensures ∙ ap (λ (h : ArchiveHeader). to_le_bytes w32 h.pages) c.header.view_is in
    let id : c.copy_from_slice-3.new.self ≡ to_le_bytes w32 header.id = c.copy_from_slice-3.ensures.after
    ∙ c.to_le_bytes-2.ensures ∙ ap (λ (h : ArchiveHeader). to_le_bytes w32 h.id) c.header.view_is in
    let kind : c.copy_from_slice-4.new.self ≡ to_le_bytes w32 (kind_number header.kind) =
    c.copy_from_slice-4.ensures.after ∙ c.to_le_bytes-3.ensures ∙ ap (to_le_bytes w32) c.kind_number.ensures
    ∙ ap (λ (h : ArchiveHeader). to_le_bytes w32 (kind_number h.kind)) c.header.view_is in
    let parent : c.copy_from_slice-5.new.self ≡ to_le_bytes w32 (parent_of header.kind) =
    c.copy_from_slice-5.ensures.after ∙ c.to_le_bytes-4.ensures ∙ ap (to_le_bytes w32) c.parent_of.ensures
    ∙ ap (λ (h : ArchiveHeader). to_le_bytes w32 (parent_of h.kind)) c.header.view_is in
    let begin : c.copy_from_slice-6.new.self ≡ to_le_bytes w64 header.begin = c.copy_from_slice-6.ensures.after
    ∙ c.to_le_bytes-5.ensures ∙ ap (λ (h : ArchiveHeader). to_le_bytes w64 h.begin) c.header.view_is in
    let redo : c.copy_from_slice-7.new.self ≡ to_le_bytes w64 header.redo = c.copy_from_slice-7.ensures.after
    ∙ c.to_le_bytes-6.ensures ∙ ap (λ (h : ArchiveHeader). to_le_bytes w64 h.redo) c.header.view_is in
    let taken : c.copy_from_slice-8.new.self ≡ to_le_bytes w32 header.taken = c.copy_from_slice-8.ensures.after
    ∙ c.to_le_bytes-7.ensures ∙ ap (λ (h : ArchiveHeader). to_le_bytes w32 h.taken) c.header.view_is in
    let digit : c.digit.result ≡ digit_of header.format =
    c.digit.ensures ∙ ap (λ (h : ArchiveHeader). digit_of h.format) c.header.view_is in
    rw (c.copy_from_slice.ensures.after, digit, pages, id, kind, parent, begin, redo, taken) refl
