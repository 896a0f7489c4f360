-- What puts a text on a page. Assumes nothing.
use Rattle.std.specs.Prelude.{ℕ, ◌≡◌, List}
use Rattle.page.specs.Put.{Put}
use Rattle.page.specs.declared.Page.{Page}

-- the text stands behind the others as far as it fits, and the page is still of the same bytes
pub record Puts (old : Page) (text : List ℕ) (new : Page) : Type 0 where
  pub put : Put old.bytes.now old.end text new.end new.bytes.now
  pub same : new.bytes.ghost_name ≡ old.bytes.ghost_name
