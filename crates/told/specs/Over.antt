-- What a call leaves in a lent array that it fills from the start.
use Rattle.std.specs.Prelude.{List, ◌++◌, length, drop}
use Rattle.told.specs.Told.{Told, gave, refused}

-- l, and past it what stood there
abbrev pub over : {A : Type 0} → List A → List A → List A
over l xs = l ++ drop (length l) xs

-- a lent array after what is told: the values, and past them what stood there; refused, as before
abbrev pub filled : {A B : Type 0} → Told B → List A → List A → List A
filled (gave x) values old = over values old
filled (refused what) values old = old
