-- The names so far and those of the rest are all; each is a name in the directory.
use Rattle.std.proofs.Common.{◌≡◌, ◌++◌, All}
use Rattle.std.specs.List.{filter_map}
use Rattle.ig_defs.specs.Names.{IsNameIn}
use Rattle.ig_store.specs.Names.{name_in}
use Rattle.ig_store.proofs.listing.list_names.Given as goal

abbrev pub invariant-loop-path : goal.invariant-loop-path
invariant-loop-path l =
    (l.names ++ filter_map (name_in l.dir) l.path-iterator ≡ filter_map (name_in l.dir) l.initial.path-iterator) × All (IsNameIn l.dir) l.names
