-- The first section under each CID, of sections that stand behind those to which they link.
use Rattle.std.proofs.Common.{◌≡◌, ⊎_elim, Bool, true, false, ◌∷◌, ◌++◌, [], List, refl, sym, ap, ◌∙◌, subst}
use Rattle.std.specs.List.{list_any}
use Rattle.std.specs.Prelude.{All, Contains, ◌||◌}
use Rattle.std.proofs.lemmas.Bool.{cases_Bool, cond-false, cond-true, or_cases}
use Rattle.std.proofs.lemmas.List.Elements.{All-contains, All-contains_itself, All-head, All-tail, All-weaker, Contains-append_left, Contains-push, Contains-push_cases}
use Rattle.std.proofs.lemmas.List.Folds.{list_any-append}
use Rattle.tg_bytes.specs.Lists.{none_in}
use Rattle.tg_cid.specs.Cid.{CidParts}
use Rattle.tg_import_file.specs.Files.{AreBlocksOf}
use Rattle.tg_model.specs.Dag.{Dag, Section, blocks}
use Rattle.tg_model.specs.ImportLayout.{HasPlainCid}
use Rattle.tg_node_writing.specs.BlockOrder.{AreBehindLinks}
use Rattle.tg_node_writing.specs.BlockOrderLaws.{among_joined, behind_both, behind_first, behind_nothing, behind_rest, behind_wider}
use Rattle.tg_cid.specs.declared.cid.HashKind.{HashKind}
use Rattle.tg_store.specs.Entries.{first_of_each, held_if, is_held, new_beside}
use Rattle.tg_store.specs.KeyLaws.{same_key_is}
use Rattle.tg_store.specs.Keys.{key_of, same_key}
use Rattle.tg_store.specs.declared.key.Key.{Key}

-- plain CIDs with one key are one
same_cid : (a b : Section) → HasPlainCid a → HasPlainCid b → same_key (key_of a.cid) (key_of b.cid) ≡ true → b.cid ≡ a.cid
same_cid a b plain_a plain_b same =
    let keys = same_key_is (key_of a.cid) (key_of b.cid) same in
    let version = plain_b.0 ∙ sym plain_a.0 in
    let hash = plain_b.1 ∙ sym plain_a.1 in
    let codec = ap (λ (k : Key). k.codec) (sym keys) in
    let digest = ap (λ (k : Key). k.digest) (sym keys) in
    λ i. record { version = version i; codec = codec i; hash = hash i; digest = digest i }

only_one : (x y : CidParts) → Contains (x ∷ []) y → x ≡ y
only_one x y has = ⊎_elim (λ (h : Contains [] y). absurd (none_in y h)) (λ (e : x ≡ y). e) (Contains-push_cases [] x y has)

-- under each key that was met the CID is known
abbrev pub AreMet : List Key → List CidParts → Type 0
AreMet keys known = (section : Section) → HasPlainCid section → list_any (same_key (key_of section.cid)) keys ≡ true → Contains known section.cid

met_more : (keys : List Key) (known : List CidParts) (first : Section) → HasPlainCid first → AreMet keys known → AreMet (keys ++ key_of first.cid ∷ []) (known ++ first.cid ∷ [])
met_more keys known first plain met section here h =
    let test = same_key (key_of section.cid) in
    let split = sym (list_any-append test keys (key_of first.cid ∷ [])) ∙ h in
    ⊎_elim
    (λ (x : list_any test keys ≡ true). Contains-append_left known (first.cid ∷ []) section.cid (met section here x))
    (λ (x : list_any test (key_of first.cid ∷ []) ≡ true).
    subst (Contains (known ++ first.cid ∷ [])) (same_cid section first here plain (only_test (test (key_of first.cid)) x)) (Contains-push known first.cid))
    (or_cases (list_any test keys) (list_any test (key_of first.cid ∷ [])) split)
  where
    only_test : (b : Bool) → (b || false) ≡ true → b ≡ true
    only_test true e = refl
    only_test false e = e

new_order : (sections : List Section) (keys : List Key) (known : List CidParts) → AreMet keys known → All HasPlainCid sections → AreBehindLinks known sections
    → AreBehindLinks known (new_beside keys sections)
new_order [] keys known met plain h = behind_nothing known
new_order (section ∷ sections) keys known met plain h =
    let here = All-head HasPlainCid section sections plain in
    let others = All-tail HasPlainCid section sections plain in
    let test = list_any (same_key (key_of section.cid)) keys in
    let held : is_held keys section.cid ≡ test = ap (λ (hash : HashKind). held_if hash test) here.1 in
    let rest = behind_rest known section sections h in
    let left = new_beside keys sections in
    let right = section ∷ new_beside (keys ++ key_of section.cid ∷ []) sections in
    ⊎_elim
    (λ (e : test ≡ true).
    let in_known = met section here e in
    subst (AreBehindLinks known) (sym (cond-true (is_held keys section.cid) left right (held ∙ e)))
    (new_order sections keys known met others
    (behind_wider (known ++ section.cid ∷ []) known sections
    (among_joined known (section.cid ∷ []) known (λ cid has. has) (λ cid has. subst (Contains known) (only_one section.cid cid has) in_known)) rest)))
    (λ (e : test ≡ false).
    subst (AreBehindLinks known) (sym (cond-false (is_held keys section.cid) left right (held ∙ e)))
    (behind_both known section (new_beside (keys ++ key_of section.cid ∷ []) sections) (behind_first known section sections h)
    (new_order sections (keys ++ key_of section.cid ∷ []) (known ++ section.cid ∷ []) (met_more keys known section here met) others rest)))
    (cases_Bool test)

pub once_order : (d : Dag) (sections : List Section) → AreBlocksOf d sections → All HasPlainCid (blocks d) → AreBehindLinks [] sections → AreBehindLinks [] (first_of_each sections)
once_order d sections all plain h =
    new_order sections [] [] (λ section here e. absurd (cc))
    (All-weaker (Contains sections) HasPlainCid (λ section has. All-contains HasPlainCid (blocks d) section plain ((all section).1 has)) sections (All-contains_itself sections)) h
