-- How a log is taken.
use Rattle.std.specs.Prelude.{List}
use Rattle.log_folder.specs.Deeds.{Deed}
use Rattle.log_folder.specs.Plans.{taken_to_serve, taken_to_close, taken_to_mend}
use Rattle.claimnode.specs.declared.file.Purpose.{Purpose}
use Rattle.claimnode.specs.declared.file.Purpose.TheVariants.{Serve, Close, Mend}

-- the deeds by which a log is taken for a purpose
abbrev pub taken_for : Purpose → List Deed → List Deed
taken_for Serve before = taken_to_serve before
taken_for Close before = taken_to_close before
taken_for Mend before = taken_to_mend before
