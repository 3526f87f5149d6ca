-- Faults that are counted.
use Rattle.std.proofs.Common.{◌≡◌, ◌≤◌, ℕ, Result, Ok, Err, OnErr, OnOk, subst}
use Rattle.tg_faults.specs.Faults.{Rose}
use Rattle.tg_files.specs.Packs.{PackRose, PackStep}

-- an error that is counted is a fault of the pack
pub rose_counted : {A E : Type 0} (step : PackStep) (k : ℕ) (r : Result A E) → k ≡ step.faults_old → OnErr r (Rose k step.faults_new) → OnErr r (k ≤ step.faults_new) → OnErr r (PackRose step)
rose_counted step k (Ok x) same rose counted = tt
rose_counted step k (Err e) same rose counted = record {
  rose = subst (λ n. Rose n step.faults_new) same rose;
  counted = subst (λ n. n ≤ step.faults_new) same counted;
}

pub on_ok_all : {A E : Type 0} {P : Type 0} (r : Result A E) → P → OnOk r P
on_ok_all (Ok x) p = p
on_ok_all (Err e) p = tt
