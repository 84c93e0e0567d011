-- Elements copied from one list into another.
use Rattle.std.specs.Prelude.{List, ◌++◌, length, take, drop}

-- as many elements as there are and have room, in the first places; later places are as they were
unfoldable pub copied : {A : Type 0} → List A → List A → List A
copied from to = take (length to) from ++ drop (length from) to
