use Rattle.std.proofs.Common.{◌≡◌, ◌≤◌, Result, length, ap, sym, ◌∙◌, arith}
use Rattle.std.specs.Prelude.{is_ok}
use Rattle.std.proofs.lemmas.Result.{on_err_weaker, on_ok_weaker, IfErr-weaker}
use Rattle.schedule.specs.Runs.{RunParts, run_seen}
use Rattle.program_io.specs.declared.input.TheConstants.{MOST_INPUT}
use Rattle.program_io.specs.declared.fault.InputFault.{InputFault}
use Rattle.schedule_run.specs.Asked.{asked_in}
use Rattle.schedule_run.specs.Output.{StopsRun}
use Rattle.schedule_run.proofs.Endings.{known_is, started_stops}
use Rattle.schedule_run.proofs.CutOff.{begun_by, on_success}
use Rattle.schedule_run.proofs.running.run_schedule_over.Goals as goal

pub returns-clause-runs : goal.returns-clause-runs
returns-clause-runs g c =
    let whole : length c.in_ok-input.input.items ≡ c.in_ok-input.input.len = sym (ap length c.as_slice.ensures.value) ∙ c.as_slice.ensures.len in
    let within : length c.in_ok-input.input.items ≤ MOST_INPUT = omega (arith, c.in_ok-input.ensures.fits, whole) in
    let asked = rw c.as_slice.ensures.value at c.in_ok-asked.ensures.asked in
    let opens = rw c.as_slice.ensures.value at c.in_ok-asked.ensures.opens in record {
      output =
          on_ok_weaker c.run_asked.result
          (λ written. known_is _ _ c.in_ok-input.input.items c.in_ok-input.ensures.all (
            written.0,
            record {
              run = run_seen c.in_ok-asked.asked.run;
              asked = asked;
              settings = c.in_ok-asked.asked.settings;
              opens = opens;
              reported = written.1;
            },
            written.2,
          ))
          c.run_asked.ensures.output;
      stops =
          IfErr-weaker c.run_asked.result _ _
          (λ fault start. known_is (λ input. StopsRun fault input (asked_in input)) _ c.in_ok-input.input.items c.in_ok-input.ensures.all
          (started_stops fault c.in_ok-input.input.items (asked_in c.in_ok-input.input.items) within (ap (λ (told : Result RunParts InputFault). is_ok told) asked) start))
          c.run_asked.ensures.started;
      fits = on_success c.run_asked.result (known_is (λ input. length input ≤ MOST_INPUT) _ c.in_ok-input.input.items c.in_ok-input.ensures.all within);
      quiet = c.run_asked.ensures.unwritten;
      beginning =
          on_err_weaker c.run_asked.result
          (λ stopped. known_is _ _ c.in_ok-input.input.items c.in_ok-input.ensures.all
          (begun_by _ _ c.in_ok-input.input.items c.in_ok-asked.asked.settings (run_seen c.in_ok-asked.asked.run) asked opens stopped))
          c.run_asked.ensures.stopped;
      told =
          IfErr-weaker c.run_asked.result _ _
          (λ fault told why. known_is _ _ c.in_ok-input.input.items c.in_ok-input.ensures.all (run_seen c.in_ok-asked.asked.run, asked, told why))
          c.run_asked.ensures.told;
    }
