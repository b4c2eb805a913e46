-- What stops a command, and the counts of faults.
use Rattle.std.proofs.Common.{◌≡◌, ◌≤◌, ℕ, Result, Ok, Err, refl, ap, arith}
use Rattle.lumos_depot.specs.Causes.{Rose}
use Rattle.grid_build.specs.declared.options.BuildFault.{BuildFault}
use Rattle.grid_build.specs.declared.options.BuildFault.TheVariants as build
use Rattle.grid_format.specs.declared.head.GridInfo.{GridInfo}
use Rattle.lumos_top.specs.Building.{BuildStops}
use Rattle.lumos_top.specs.Ends.{HasCauses}
use Rattle.lumos_top.specs.Running.{command_stop}
use Rattle.lumos_top.specs.declared.running.RunStop.{RunStop}
use Rattle.lumos_top.specs.declared.running.RunStop.TheVariants as by
use Rattle.lumos_top.specs.declared.status.Completed.{Completed}
use Rattle.lumos_top.specs.declared.status.Ended.{Ended}
use Rattle.lumos_top.specs.declared.status.Outside.TheVariants as outside
use Rattle.lumos_top.specs.declared.status.Stop.{Stop}
use Rattle.lumos_top.specs.declared.status.Stop.TheVariants as stop

build_read : (fault : BuildFault) (why : Stop) → BuildStops fault why → why ≡ stop.Outside outside.Read → fault ≡ build.Read
build_read (build.Input faulty) why is same = absurd (cc)
build_read (build.TooManyEdges limit) why is same = absurd (cc)
build_read (build.InputTooLong limit) why is same = absurd (cc)
build_read (build.BudgetTooSmall need given) why is same = absurd (cc)
build_read build.Read why is same = refl
build_read build.Depot why is same = absurd (cc)
build_read build.NoMemory why is same = absurd (cc)

build_depot : (fault : BuildFault) (why : Stop) → BuildStops fault why → why ≡ stop.Outside outside.Depot → fault ≡ build.Depot
build_depot (build.Input faulty) why is same = absurd (cc)
build_depot (build.TooManyEdges limit) why is same = absurd (cc)
build_depot (build.InputTooLong limit) why is same = absurd (cc)
build_depot (build.BudgetTooSmall need given) why is same = absurd (cc)
build_depot build.Read why is same = absurd (cc)
build_depot build.Depot why is same = refl
build_depot build.NoMemory why is same = absurd (cc)

build_write : (fault : BuildFault) (why : Stop) → BuildStops fault why → why ≡ stop.Outside outside.Write → ⊥
build_write (build.Input faulty) why is same = cc
build_write (build.TooManyEdges limit) why is same = cc
build_write (build.InputTooLong limit) why is same = cc
build_write (build.BudgetTooSmall need given) why is same = cc
build_write build.Read why is same = cc
build_write build.Depot why is same = cc
build_write build.NoMemory why is same = cc

run_read : (why : RunStop) → command_stop why ≡ stop.Outside outside.Read → ⊥
run_read by.Memory is = cc
run_read by.Depot is = cc
run_read by.Write is = cc
run_read (by.Damaged damage) is = cc
run_read (by.BudgetTooSmall need given) is = cc

run_depot : (why : RunStop) → command_stop why ≡ stop.Outside outside.Depot → why ≡ by.Depot
run_depot by.Memory is = absurd (cc)
run_depot by.Depot is = refl
run_depot by.Write is = absurd (cc)
run_depot (by.Damaged damage) is = absurd (cc)
run_depot (by.BudgetTooSmall need given) is = absurd (cc)

run_write : (why : RunStop) → command_stop why ≡ stop.Outside outside.Write → why ≡ by.Write
run_write by.Memory is = absurd (cc)
run_write by.Depot is = absurd (cc)
run_write by.Write is = refl
run_write (by.Damaged damage) is = absurd (cc)
run_write (by.BudgetTooSmall need given) is = absurd (cc)

why_is : (why other : Stop) → ◌≡◌ {A = Result Completed Stop} (Err why) (Err other) → why ≡ other
why_is why other is = cc

rose_on : (before mid after : ℕ) → before ≤ mid → Rose mid after → Rose before after
rose_on before mid after later rose = grind (arith, later, rose)

module _ {I D O : Type 0} (input : I → ℕ) (depot : D → ℕ) (out : O → ℕ) (source source_new : I) (files files_new : D) (sink : O) where
  -- a grid that wasn't built
  pub unbuilt_causes : (fault : BuildFault) (why : Stop) → BuildStops fault why → input source ≤ input source_new → depot files ≤ depot files_new →
      (◌≡◌ {A = Result GridInfo BuildFault} (Err fault) (Err build.Read) → Rose (input source) (input source_new)) → (◌≡◌ {A = Result GridInfo BuildFault} (Err fault) (Err build.Depot) → Rose (depot files) (depot files_new)) →
      HasCauses input depot out source source_new files files_new sink sink (Err why)
  unbuilt_causes fault why is input_later depot_later read failed = record {
    input_later = input_later;
    depot_later = depot_later;
    out_later = grind (arith);
    read = λ e. read (ap Err (build_read fault why is (why_is why (stop.Outside outside.Read) e)));
    failed = λ e. failed (ap Err (build_depot fault why is (why_is why (stop.Outside outside.Depot) e)));
    written = λ e. absurd (build_write fault why is (why_is why (stop.Outside outside.Write) e));
  }

  -- a command that is done
  pub done_causes : (sink_new : O) (completed : Completed) → input source ≤ input source_new → depot files ≤ depot files_new → out sink ≤ out sink_new → HasCauses input depot out source source_new files files_new sink sink_new (Ok completed)
  done_causes sink_new completed input_later depot_later out_later = record {
    input_later = input_later;
    depot_later = depot_later;
    out_later = out_later;
    read = λ e. absurd (cc);
    failed = λ e. absurd (cc);
    written = λ e. absurd (cc);
  }

  -- a line that wasn't written
  pub unwritten_causes : (sink_new : O) → input source ≤ input source_new → depot files ≤ depot files_new → out sink ≤ out sink_new → Rose (out sink) (out sink_new) → HasCauses input depot out source source_new files files_new sink sink_new (Err (stop.Outside outside.Write))
  unwritten_causes sink_new input_later depot_later out_later rose = record {
    input_later = input_later;
    depot_later = depot_later;
    out_later = out_later;
    read = λ e. absurd (cc);
    failed = λ e. absurd (cc);
    written = λ e. rose;
  }

  -- a run that stopped behind the build
  pub run_causes : (mid : D) (sink_new : O) (why : RunStop) → input source ≤ input source_new → depot files ≤ depot mid → depot mid ≤ depot files_new → out sink ≤ out sink_new →
      (◌≡◌ {A = Result Ended RunStop} (Err why) (Err by.Depot) → Rose (depot mid) (depot files_new)) → (◌≡◌ {A = Result Ended RunStop} (Err why) (Err by.Write) → Rose (out sink) (out sink_new)) →
      HasCauses input depot out source source_new files files_new sink sink_new (Err (command_stop why))
  run_causes mid sink_new why input_later first then out_later failed written = record {
    input_later = input_later;
    depot_later = grind (arith, first, then);
    out_later = out_later;
    read = λ e. absurd (run_read why (why_is (command_stop why) (stop.Outside outside.Read) e));
    failed = λ e. rose_on (depot files) (depot mid) (depot files_new) first (failed (ap Err (run_depot why (why_is (command_stop why) (stop.Outside outside.Depot) e))));
    written = λ e. written (ap Err (run_write why (why_is (command_stop why) (stop.Outside outside.Write) e)));
  }
