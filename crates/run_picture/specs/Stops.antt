-- Why the program ends without having written all.
use Rattle.std.specs.Prelude.{ℕ}
use Rattle.run_picture.specs.declared.stop.PictureStop.{PictureStop}
use Rattle.run_picture.specs.declared.stop.PictureStop.TheVariants.{Usage, Fault}

-- the exit status: 2 where the words are wrong, else 1
abbrev pub exit_status : PictureStop → ℕ
exit_status Usage = 2
exit_status (Fault fault) = 1
