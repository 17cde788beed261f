-- What the program answers about itself.
use Rattle.std.specs.Prelude.{◌≡◌, Ok, Err}
use Rattle.help_text.specs.declared.page.Page.{Page}
use Rattle.help_text.specs.Page.{page_text}
use Rattle.command_files.specs.Judged.{Answer}

-- the text of a page, which is never refused
abbrev pub Shows : Page → Answer → Type 0
Shows page (Ok text) = text ≡ page_text page
Shows page (Err r) = ⊥
