-- Where points lie relative to the side of a cut line.
use Rattle.plane.specs.Sign.{Minus, Null, Plus, Sign}
use Rattle.coast_split.specs.declared.portion.Place.{Place}
use Rattle.coast_split.specs.declared.portion.Place.TheVariants.{Kept, OnLine, Beyond}

abbrev pub place_by_sign : Sign → Place
place_by_sign Plus = Kept
place_by_sign Null = OnLine
place_by_sign Minus = Beyond
