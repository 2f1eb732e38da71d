-- What an edit after which the table asks for less does to its envelope and its bounds. Assumes nothing.
use Rattle.std.specs.Prelude.{List}
use Rattle.table.specs.Easing.{EasedTable}
use Rattle.table.specs.Items.{Item, line_of}
use Rattle.response.specs.Easing.{BoundsEase, FitsStill}

-- Each remaining task stood in the table before under the same number and in the same order, with the same modes, and
-- its `most` is no greater at any window; each of its modes that had a bound has one, and it is no greater; and if the
-- table fitted before, it fits.
pub record Eases (is was : List Item) : Type 0 where
  pub tasks : EasedTable is was
  pub bounds : BoundsEase tasks.from (line_of is) (line_of was)
  pub fits : FitsStill (line_of is) (line_of was)
