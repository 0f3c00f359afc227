-- How one list of nodes is told from another.
use Rattle.std.specs.Coded.{Coded}
use denote.Signature.{static_lft}
use Rattle.base_store.specs.contracts.store.Made as made
use Rattle.base_store.specs.declared.store.Made.{Made}

abbrev pub made_code : Coded Made
made_code = (made.the_row static_lft).coded
