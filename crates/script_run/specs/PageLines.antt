-- What is printed of restored pages.
use Rattle.std.specs.Prelude.{ℕ, ◌++◌, List, codes}
use Rattle.std.specs.List.{flat_map}
use Rattle.page_core.specs.declared.page.Page.{Page}
use Rattle.file_view.specs.PageText.{page_line}

-- a line, and the line feed that ends it
abbrev pub ended : List ℕ → List ℕ
ended line = line ++ codes "\n"

abbrev pub page_lines : List Page → List ℕ
page_lines pages = flat_map (λ page. ended (page_line page)) pages
