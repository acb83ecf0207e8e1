use Rattle.std.proofs.Common.{sym, arith}
use Rattle.std.proofs.lemmas.List.{drop_all, take_rest}
use Rattle.log_folder.specs.Undamaged.{head_size}
use Rattle.log_folder.proofs.undamaged.behind_head.Goals as goal

pub returns-then-bytes-lt-HEAD : goal.returns-then-bytes-lt-HEAD
returns-then-bytes-lt-HEAD c = sym (drop_all head_size c.args.bytes.now (omega arith))

pub returns : goal.returns
returns c = take_rest c.args.bytes.now head_size
