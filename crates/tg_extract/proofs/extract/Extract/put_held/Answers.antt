use Rattle.std.proofs.Common.{List, ap, arith, drop, length, subst, sym, take, ℕ, ◌+◌, ◌++◌, ◌-◌, ◌∙◌, ◌≡◌, ◌≤◌}
use Rattle.std.proofs.Math.Seq.{take-add}
use Rattle.std.proofs.lemmas.List.{length-drop, take_rest}
use Rattle.tg_extract.proofs.extract.Extract.put_held.Goals as goal
use Rattle.tg_extract.specs.Extracts.{Extracts, extract_joins}

pub loop-at-preserved : goal.loop-at-preserved
loop-at-preserved g c =
    let m = g.T.NewTree.new_tree in
    let at = c.loop-at.at in
    let n = c.in-Ok.n in
    let bytes = c.loop-at.bytes in
    let slice = c.as_slice-in-loop-at.result.now in
    let here = take (length slice - at) (drop at slice) in
    let here_is : here ≡ drop at bytes = take_rest slice at ∙ ap (drop at) c.as_slice-in-loop-at.ensures in
    let on : take (at + n) bytes ≡ take at bytes ++ take n here = take-add at n bytes ∙ ap (λ (l : List ℕ). take at bytes ++ take n l) (sym here_is) in
    let within : n ≤ length (drop at bytes) = subst (λ (l : List ℕ). n ≤ length l) here_is c.in-Ok.ensures.within in
    record {
      within = omega (arith, within, length-drop at bytes, c.loop-at.invariant.within);
      put = subst (Extracts m c.args.self.now c.read.new.self) (sym on)
          (extract_joins m c.args.self.now c.loop-at.self c.read.new.self (take at bytes) (take n here) c.loop-at.invariant.put c.in-Ok.ensures.read);
      quiet = c.in-Ok.ensures.rest.1 ∙ c.loop-at.invariant.quiet;
      going = c.in-Ok.ensures.rest.0;
      read = c.in-Ok.ensures.is_read;
      same = c.loop-at.invariant.same;
    }
