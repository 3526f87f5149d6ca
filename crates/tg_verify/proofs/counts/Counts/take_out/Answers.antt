use Rattle.std.proofs.Common.{◌≡◌}
use Rattle.std.proofs.Common.{List as Items}
use Rattle.std.proofs.Common.{length, ℕ, ◌-◌}
use Rattle.std.proofs.Common.{ap, sym, subst, ◌∙◌, Some}
use Rattle.tg_verify.specs.declared.counts.Directory.{Directory}
use Rattle.std.specs.Prelude.{slice_get, take}
use Rattle.tg_verify.proofs.CountedEntries.{takes_it, takes_new}
use Rattle.tg_verify.proofs.counts.Counts.take_out.Goals as goal

pub returns-in-Some-clause-taken : goal.returns-in-Some-clause-taken
returns-in-Some-clause-taken c met are low =
    takes_it c.args.directory c.args.self.now.directories.items c.pop.new.self.items c.in-Some.inner met
    (subst (λ (ds : Items Directory). slice_get ds (length ds - 1) ≡ Some c.in-Some.inner) c.deref.ensures.value (sym c.last.ensures.value ∙ sym c.copied.ensures ∙ c.in-Some.is))
    c.if-inner-directory.true
    (subst (λ (n : ℕ). c.pop.new.self.items ≡ take (n - 1) c.args.self.now.directories.items) (sym c.deref.ensures.len ∙ ap length c.deref.ensures.value) c.pop.ensures.rest) are

pub returns-in_default-clause-taken : goal.returns-in_default-clause-taken
returns-in_default-clause-taken c met are low =
    takes_new c.args.directory c.args.self.now.directories.items c.in-Some.inner met
    (subst (λ (ds : Items Directory). slice_get ds (length ds - 1) ≡ Some c.in-Some.inner) c.deref.ensures.value (sym c.last.ensures.value ∙ sym c.copied.ensures ∙ c.in-Some.is))
    c.if-inner-directory.false are low
