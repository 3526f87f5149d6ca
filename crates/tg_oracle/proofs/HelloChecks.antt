-- The worked example's DAGs are checked where each CID names its block.
use Rattle.std.proofs.Common.{◌≡◌, ◌<◌, ◌↔◌, ℕ, true, List, [], ◌∷◌, Ok, refl, All, nat_lt}
use Rattle.std.proofs.lemmas.Bool.{and_parts, ltb-true}
use Rattle.std.proofs.lemmas.List.Elements.{All-cons, All-head, All-nil, All-tail}
use Rattle.std.specs.List.{list_all}
use Rattle.tg_cid.specs.Cid.{CidParts}
use Rattle.tg_cid.specs.Names.{Names}
use Rattle.tg_model.specs.Computed.{read}
use Rattle.tg_model.specs.Dag.{Dag, with_child, no_child, root_cids, unopened}
use Rattle.tg_oracle.specs.HelloWorld.{IsNamed, all_sections, whole_dag, middle_dag, leafless_dag, d, d_block, d_cid, d_kind, directory_of, f, f_block, f_cid, f_kind, file_of, l1, l1_cid, l2, l2_cid, l3, l3_cid, leaf}
use Rattle.tg_model.specs.Reading.{Reads}
use Rattle.tg_model.specs.Sound.{IsChecked, IsCheckedAt, IsSound, part}
use Rattle.tg_model.specs.declared.kinds.Kind.{Kind}

-- numbers that pass the test are bytes
pub bytes_tested : (xs : List ℕ) → list_all (λ b. nat_lt b 256) xs ≡ true → All (λ (b : ℕ). b < 256) xs
bytes_tested [] e = All-nil (λ (b : ℕ). b < 256)
bytes_tested (x ∷ xs) e =
    let (first, rest) = and_parts (nat_lt x 256) (list_all (λ b. nat_lt b 256) xs) e in
    All-cons (λ (b : ℕ). b < 256) x xs (ltb-true x 256 first) (bytes_tested xs rest)

-- the computed reading is the relation's, for blocks of bytes
abbrev pub ReadLaw : Type 0
ReadLaw = (cid : CidParts) (block : List ℕ) (kind : Kind) → All (λ b. b < 256) block → (read cid block ≡ Ok kind) ↔ Reads cid block kind

-- the names one by one
record AreNamed : Type 0 where
  d_named : Names d_cid d.block
  f_named : Names f_cid f.block
  l1_named : Names l1_cid l1.block
  l2_named : Names l2_cid l2.block
  l3_named : Names l3_cid l3.block

each_named : All IsNamed all_sections → AreNamed
each_named h =
    let h1 = All-tail IsNamed d (f ∷ l1 ∷ l2 ∷ l3 ∷ []) h in
    let h2 = All-tail IsNamed f (l1 ∷ l2 ∷ l3 ∷ []) h1 in
    let h3 = All-tail IsNamed l1 (l2 ∷ l3 ∷ []) h2 in
    let h4 = All-tail IsNamed l2 (l3 ∷ []) h3 in
    record {
      d_named = All-head IsNamed d (f ∷ l1 ∷ l2 ∷ l3 ∷ []) h;
      f_named = All-head IsNamed f (l1 ∷ l2 ∷ l3 ∷ []) h1;
      l1_named = All-head IsNamed l1 (l2 ∷ l3 ∷ []) h2;
      l2_named = All-head IsNamed l2 (l3 ∷ []) h3;
      l3_named = All-head IsNamed l3 [] h4;
    }

-- the leaves as parts
l1_checked : Names l1_cid l1.block → IsCheckedAt (part 4) (leaf l1)
l1_checked named = (record { named = named; reads = refl; links = refl; stands = refl; of_size = refl; tells_size = tt }, tt)

l2_checked : Names l2_cid l2.block → IsCheckedAt (part 4) (leaf l2)
l2_checked named = (record { named = named; reads = refl; links = refl; stands = refl; of_size = refl; tells_size = tt }, tt)

l3_checked : Names l3_cid l3.block → IsCheckedAt (part 3) (leaf l3)
l3_checked named = (record { named = named; reads = refl; links = refl; stands = refl; of_size = refl; tells_size = tt }, tt)

-- the directory over the file over three parts that are checked
checked_over : ReadLaw → read f_cid f_block ≡ Ok f_kind → read d_cid d_block ≡ Ok d_kind → AreNamed → (a b c : Dag)
    → root_cids (with_child a (with_child b (with_child c no_child))) ≡ l1_cid ∷ l2_cid ∷ l3_cid ∷ [] → IsCheckedAt (part 4) a → IsCheckedAt (part 4) b → IsCheckedAt (part 3) c
    → IsChecked (directory_of (file_of a b c))
checked_over law f_read d_read names a b c children a_checked b_checked c_checked = (
  record {
    named = names.d_named;
    reads = (law d_cid d_block d_kind (bytes_tested d_block refl)).0 d_read;
    links = refl;
    stands = refl;
    of_size = tt;
    tells_size = tt;
  },
  (
    (
      record {
        named = names.f_named;
        reads = (law f_cid f_block f_kind (bytes_tested f_block refl)).0 f_read;
        links = children;
        stands = refl;
        of_size = tt;
        tells_size = refl;
      },
      (a_checked, (b_checked, (c_checked, tt))),
    ),
    tt,
  ),
)

module _ (law : ReadLaw) (f_read : read f_cid f_block ≡ Ok f_kind) (d_read : read d_cid d_block ≡ Ok d_kind) (named : All IsNamed all_sections) where
  pub whole_sound : IsSound whole_dag
  whole_sound =
      let names = each_named named in
      record {
        whole = ((tt, (tt, (tt, tt))), tt);
        checked = checked_over law f_read d_read names (leaf l1) (leaf l2) (leaf l3) refl (l1_checked names.l1_named) (l2_checked names.l2_named) (l3_checked names.l3_named);
      }

  pub middle_checked : IsChecked middle_dag
  middle_checked =
      let names = each_named named in
      checked_over law f_read d_read names (unopened l1_cid) (leaf l2) (unopened l3_cid) refl tt (l2_checked names.l2_named) tt

  pub leafless_checked : IsChecked leafless_dag
  leafless_checked = checked_over law f_read d_read (each_named named) (unopened l1_cid) (unopened l2_cid) (unopened l3_cid) refl tt tt tt
