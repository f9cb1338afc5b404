-- What a reading of a report puts. Assumes nothing: these are definitions.
use Rattle.containment.specs.Search.{Part}
use Rattle.containment.specs.Coding.{part_of}
use Rattle.reports.specs.declared.made.OwnReading.{OwnReading}

-- the part of a reading that it is
abbrev pub own_part : OwnReading → Part
own_part s = part_of s.reading.codes
