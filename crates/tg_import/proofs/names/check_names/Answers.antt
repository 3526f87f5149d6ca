use Rattle.std.proofs.Common.{◌≡◌, ◌⊎◌, inl, inr, ℕ, List, [], ◌∷◌, ◌++◌, length, take, ap, sym, ◌∙◌, subst, arith}
use Rattle.std.specs.Prelude.{Contains, true}
use Rattle.tg_import.proofs.GoodNames.{is_good, not_good}
use Rattle.tg_import.proofs.NamesInOrder.{AreTaken, all_taken, name_fault, one_more, stood_before}
use Rattle.tg_import.specs.Refused.{item_names}
use Rattle.tg_import.specs.Steps.{StandsBefore}
use Rattle.tg_import.specs.declared.fault.ImportFault.TheVariants as faults
use Rattle.tg_model.specs.EntryNames.{IsGoodName}
use Rattle.tg_import.proofs.names.check_names.Goals.{then-not-is_good_name-via-then-not-is_good_name, then-not-is_good_name-via-else-not-is_good_name+then-stands_before}
use Rattle.tg_tree.specs.declared.items.Item.{Item}
use Rattle.tg_import.proofs.names.check_names.Goals as goal

pub returns-then-not-is_good_name-clause-cause : goal.returns-then-not-is_good_name-clause-cause
returns-then-not-is_good_name-clause-cause c =
    let item = c.index-items-i.result in
    let named : c.as_slice-name.result.now ≡ item.name = c.as_slice-name.ensures ∙ ap (λ (x : Item). x.name) (sym c.index-items-i.is) in
    let why : (IsGoodName item.name → ⊥) ⊎ Contains (item_names (take c.loop-i.i c.args.items.now)) item.name =
    elim c.then-not-is_good_name.branch [
      | then-not-is_good_name-via-then-not-is_good_name w ↦ inl (not_good c.as_slice-name.result.now item.name c.is_good_name.result (c.good_names.ensures c.as_slice-name.result.now) named c.is_good_name.ensures w.if-not-is_good_name.true)
      | then-not-is_good_name-via-else-not-is_good_name+then-stands_before w ↦ inr (stood_before c.args.items.now c.loop-i.i item c.loop-i-test.true c.index-items-i.is (w.stands_before.ensures.0 w.if-stands_before.true))
    ] in
    name_fault c.args.path.now c.args.items.now c.loop-i.i item (faults.BadName c.in_ok-path_of_entry.field-0) c.loop-i.invariant c.loop-i-test.true c.index-items-i.is
    (c.in_ok-path_of_entry.ensures ∙ ap (λ (n : List ℕ). c.args.path.now ++ n ∷ []) named, why)

pub returns-then-name-gt-MAX_NAME_LEN-clause-cause :
    goal.returns-then-name-gt-MAX_NAME_LEN-clause-cause
returns-then-name-gt-MAX_NAME_LEN-clause-cause c =
    let item = c.index-items-i.result in
    let named : c.as_slice-name.result.now ≡ item.name = c.as_slice-name.ensures ∙ ap (λ (x : Item). x.name) (sym c.index-items-i.is) in
    let same = ap length named in
    name_fault c.args.path.now c.args.items.now c.loop-i.i item (faults.LongName c.in_ok-path_of_entry-2.field-0) c.loop-i.invariant c.loop-i-test.true c.index-items-i.is (
      c.in_ok-path_of_entry-2.ensures ∙ ap (λ (n : List ℕ). c.args.path.now ++ n ∷ []) named,
      is_good c.as_slice-name.result.now item.name c.is_good_name.result (c.good_names.ensures c.as_slice-name.result.now) named c.is_good_name.ensures c.if-not-is_good_name.false,
      omega (arith, same, c.if-name-gt-MAX_NAME_LEN.true),
    )

pub loop-i-preserved : goal.loop-i-preserved
loop-i-preserved c =
    let item = c.index-items-i.result in
    let named : c.as_slice-name.result.now ≡ item.name = c.as_slice-name.ensures ∙ ap (λ (x : Item). x.name) (sym c.index-items-i.is) in
    let same = ap length named in
    one_more c.args.items.now c.loop-i.i item c.requires c.loop-i.invariant c.loop-i-test.true c.index-items-i.is
    (record {
      good = is_good c.as_slice-name.result.now item.name c.is_good_name.result (c.good_names.ensures c.as_slice-name.result.now) named c.is_good_name.ensures c.if-not-is_good_name.false;
      short = omega (arith, same, c.if-name-gt-MAX_NAME_LEN.false);
    })
    (λ (before : StandsBefore c.args.items.now c.loop-i.i). (let stands : c.stands_before.result ≡ true = c.stands_before.ensures.1 before in let other = c.if-stands_before.false in absurd (cc)))

pub returns-clause-names : goal.returns-clause-names
returns-clause-names c =
    let whole : c.loop-i.i ≡ length c.args.items.now = omega arith in
    all_taken c.args.items.now (subst (λ (n : ℕ). AreTaken c.args.items.now n) whole c.loop-i.invariant)
