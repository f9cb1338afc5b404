-- What a reading that the code tells is: a part of a reading, by its codes. Assumes nothing: these are definitions.
use Rattle.std.specs.Prelude.{Some, None, Option}
use Rattle.containment.specs.declared.reading.Reading.{Reading}
use Rattle.containment.specs.Search.{Part}
use Rattle.containment.specs.Coding.{part_of}

abbrev pub told : Option Reading → Option Part
told None = None
told (Some r) = Some (part_of r.codes)
