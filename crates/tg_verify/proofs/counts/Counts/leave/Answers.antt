use Rattle.std.proofs.Common.{◌≡◌}
use Rattle.std.proofs.Common.{List as Items}
use Rattle.std.proofs.Common.{length, ℕ, ◌-◌}
use Rattle.std.proofs.Common.{refl, ap, sym, subst, ◌∙◌, Some, None}
use Rattle.tg_verify.specs.declared.counts.Directory.{Directory}
use Rattle.std.specs.Option.{option_copied}
use Rattle.std.specs.Prelude.{slice_get, take}
use Rattle.tg_verify.specs.declared.counts.Counts.{Counts}
use Rattle.tg_verify.proofs.CountedEntries.{all_left, none_left, one_left, rest_left}
use Rattle.tg_verify.proofs.counts.Counts.leave.Goals as goal

pub loop-inner-init : goal.loop-inner-init
loop-inner-init c = record { left = none_left c.args.directory c.args.self.now.directories.items; others = refl }

pub loop-inner-preserved : goal.loop-inner-preserved
loop-inner-preserved c = record {
  left = one_left c.args.directory c.args.self.now.directories.items c.loop-inner.self.directories.items c.pop.new.self.items c.in-Some.inner.now c.loop-inner.invariant.left
      (subst (λ (ds : Items Directory). slice_get ds (length ds - 1) ≡ Some c.in-Some.inner.now) c.deref.ensures.value (sym c.last.ensures.value ∙ ap option_copied c.in-Some.is))
      c.if-inner-directory.false
      (subst (λ (n : ℕ). c.pop.new.self.items ≡ take (n - 1) c.loop-inner.self.directories.items) (sym c.deref.ensures.len ∙ ap length c.deref.ensures.value) c.pop.ensures.rest);
  others = ap (λ (counts : Counts). record counts { directories = c.pop.new.self }) c.loop-inner.invariant.others;
}

pub returns-then-inner-directory-clause-met : goal.returns-then-inner-directory-clause-met
returns-then-inner-directory-clause-met c =
    rest_left c.args.directory c.args.self.now.directories.items c.loop-inner.self.directories.items c.in-Some.inner.now c.loop-inner.invariant.left
    (subst (λ (ds : Items Directory). slice_get ds (length ds - 1) ≡ Some c.in-Some.inner.now) c.deref.ensures.value (sym c.last.ensures.value ∙ ap option_copied c.in-Some.is))
    c.if-inner-directory.true

pub returns-then-inner-directory-clause-others : goal.returns-then-inner-directory-clause-others
returns-then-inner-directory-clause-others c = c.loop-inner.invariant.others

pub returns-in_default-clause-met : goal.returns-in_default-clause-met
returns-in_default-clause-met c =
    all_left c.args.directory c.args.self.now.directories.items c.loop-inner.self.directories.items c.loop-inner.invariant.left
    (subst (λ (ds : Items Directory). slice_get ds (length ds - 1) ≡ None) c.deref.ensures.value (sym c.last.ensures.value ∙ ap option_copied c.in_default.is))

pub returns-in_default-clause-others : goal.returns-in_default-clause-others
returns-in_default-clause-others c = c.loop-inner.invariant.others
