-- What a page means.
use Rattle.std.specs.Prelude.{take, drop}
use Rattle.page.specs.Pages.{Filled}
use Rattle.page.specs.declared.buffer.Page.{Page}

abbrev pub filled_of : Page → Filled
filled_of p = record { lent = p.buffer.ghost_name; text = take p.len p.buffer.now; behind = drop p.len p.buffer.now; whole = p.whole }
