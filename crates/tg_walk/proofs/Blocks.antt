-- A map of the blocks that are known.
use Rattle.std.proofs.Common.{All, Bool, Bor, IsTrue, List, None, Option, Some, [], ap, cond, false, inl, inr, is_some, refl, subst, sym, true, ℕ, ◌-◌, ◌∙◌, ◌∷◌, ◌≡◌, ◌||◌, ◌↔◌, ◌⊎◌}
use Rattle.std.proofs.lemmas.List.Elements.{All-cons, All-contains_itself, All-nil, All-weaker, Contains-append_left, Contains-append_right, Contains-push}
use Rattle.std.specs.List.{Contains}
use Rattle.std.specs.Map.{keys_of, lookup}
use Rattle.indexmap.specs.IndexMap.{insert_entry}
use Rattle.tg_cid.specs.Cid.{CidParts}
use Rattle.tg_cid.specs.CodeLaws.{same_cid, same_cid_decides}
use Rattle.std.specs.Option.{option_copied}
use Rattle.tg_traversal.specs.declared.position.Role.{Role}
use Rattle.tg_walk.specs.Known.{IsKeptOf, is_known}
use Rattle.tg_walk.specs.declared.known.Opened.{Opened}
use Rattle.tg_walk.specs.declared.known.Walked.{Walked}

abbrev pub Decides : (CidParts → CidParts → Bool) → Type 0
Decides eq = (a b : CidParts) → IsTrue (eq a b) ↔ (a ≡ b)

same_test : (eq : CidParts → CidParts → Bool) → Decides eq → (a b : CidParts) → eq a b ≡ same_cid a b
same_test eq laws a b = by (eq a b) (same_cid a b) (λ e. (same_cid_decides a b).1 ((laws a b).0 e)) (λ e. (laws a b).1 ((same_cid_decides a b).0 e))
  where
    by : (x y : Bool) → (x ≡ true → y ≡ true) → (y ≡ true → x ≡ true) → x ≡ y
    by true y f g = sym (f refl)
    by false true f g = g refl
    by false false f g = refl

pub is_found : {X : Type 0} → (eq : CidParts → CidParts → Bool) → Decides eq → (cid : CidParts) (entries : List (CidParts × X))
    → is_some (lookup (eq cid) entries) ≡ is_known cid (keys_of entries)
is_found eq laws cid [] = refl
is_found eq laws cid (e ∷ entries) = by (eq cid e.0) (same_cid cid e.0) (same_test eq laws cid e.0) (is_found eq laws cid entries)
  where
    by : (x y : Bool) → x ≡ y → is_some (lookup (eq cid) entries) ≡ is_known cid (keys_of entries)
        → is_some (cond x (Some e.1) (lookup (eq cid) entries)) ≡ (y || is_known cid (keys_of entries))
    by true true s h = refl
    by true false s h = cc
    by false true s h = cc
    by false false s h = h

first_one : {A : Type 0} (x : A) (xs : List A) → Contains (x ∷ xs) x
first_one x xs = Contains-append_left (x ∷ []) xs x (Contains-push [] x)

other_one : {A : Type 0} (x y : A) (xs : List A) → Contains xs y → Contains (x ∷ xs) y
other_one x y xs h = Contains-append_right (x ∷ []) xs y h

-- what is found is an entry
pub found_entry : {X : Type 0} → (eq : CidParts → CidParts → Bool) → Decides eq → (cid : CidParts) (v : X) (entries : List (CidParts × X)) → lookup (eq cid) entries ≡ Some v → Contains entries (cid, v)
found_entry eq laws cid v [] e = absurd (cc e)
found_entry {X = X} eq laws cid v (x ∷ entries) e = by (eq cid x.0) refl e (found_entry eq laws cid v entries)
  where
    by : (b : Bool) → eq cid x.0 ≡ b → cond b (Some x.1) (lookup (eq cid) entries) ≡ Some v → (lookup (eq cid) entries ≡ Some v → Contains entries (cid, v)) → Contains (x ∷ entries) (cid, v)
    by true t f later =
        let key : cid ≡ x.0 = (laws cid x.0).0 t in
        let value : x.1 ≡ v = cc in
        let same : x ≡ (cid, v) = λ i. (sym key i, value i) in
        subst (Contains (x ∷ entries)) same (first_one x entries)
    by false t f later = other_one x (cid, v) entries (later f)

pub is_there : {X : Type 0} → (eq : CidParts → CidParts → Bool) → Decides eq → (cid : CidParts) (entries : List (CidParts × X)) (found : Option (Bor X)) (b : Bool)
    → option_copied found ≡ lookup (eq cid) entries → b ≡ is_some found → is_known cid (keys_of entries) ≡ b
is_there eq laws cid entries found b e s = sym (is_found eq laws cid entries) ∙ sym (ap is_some e) ∙ same found ∙ sym s
  where
    same : {X : Type 0} → (found : Option (Bor X)) → is_some (option_copied found) ≡ is_some found
    same None = refl
    same (Some x) = refl

pub none_there : {X : Type 0} → (found : Option (Bor X)) (there : Option X) → option_copied found ≡ there → false ≡ is_some found → there ≡ None
none_there None there e s = sym e
none_there (Some x) there e s = cc

pub some_there : {X : Type 0} → (found : Option (Bor X)) (there : Option X) → option_copied found ≡ there → true ≡ is_some found → is_some there ≡ true
some_there None there e s = cc
some_there (Some x) there e s = sym (ap is_some e)

-- what an entry is where one is put
pub put_entries : {X : Type 0} → (eq : CidParts → CidParts → Bool) → Decides eq → (cid : CidParts) (v : X) (entries : List (CidParts × X))
    → All (λ e. Contains entries e ⊎ (e ≡ (cid, v))) (insert_entry eq entries cid v)
put_entries eq laws cid v [] = All-cons (λ e. Contains [] e ⊎ (e ≡ (cid, v))) (cid, v) [] (inr refl) (All-nil (λ e. Contains [] e ⊎ (e ≡ (cid, v))))
put_entries eq laws cid v (x ∷ entries) = by (eq cid x.0) refl (put_entries eq laws cid v entries)
  where
    rest : All (λ e. Contains (x ∷ entries) e ⊎ (e ≡ (cid, v))) entries
    rest = All-weaker (Contains entries) (λ e. Contains (x ∷ entries) e ⊎ (e ≡ (cid, v))) (λ e h. inl (other_one x e entries h)) entries (All-contains_itself entries)

    by : (b : Bool) → eq cid x.0 ≡ b → All (λ e. Contains entries e ⊎ (e ≡ (cid, v))) (insert_entry eq entries cid v)
        → All (λ e. Contains (x ∷ entries) e ⊎ (e ≡ (cid, v))) (cond b ((x.0, v) ∷ entries) (x ∷ insert_entry eq entries cid v))
    by true t more = All-cons (λ e. Contains (x ∷ entries) e ⊎ (e ≡ (cid, v))) (x.0, v) entries (inr (ap (λ (c : CidParts). (c, v)) (sym ((laws cid x.0).0 t)))) rest
    by false t more = All-cons (λ e. Contains (x ∷ entries) e ⊎ (e ≡ (cid, v))) x (insert_entry eq entries cid v) (inl (first_one x entries))
        (All-weaker (λ e. Contains entries e ⊎ (e ≡ (cid, v))) (λ e. Contains (x ∷ entries) e ⊎ (e ≡ (cid, v)))
        (λ e h. elim h [ inl there ↦ inl (other_one x e entries there) | inr same ↦ inr same ]) (insert_entry eq entries cid v) more)

-- what is kept of a block
pub kept_all : (node : Opened) (entries : List (CidParts × Option Walked)) → All (IsKeptOf entries node) entries
kept_all node entries = All-weaker (Contains entries) (IsKeptOf entries node) (λ e h. inl h) entries (All-contains_itself entries)

pub kept_put : (eq : CidParts → CidParts → Bool) → Decides eq → (node : Opened) (role : Role) (levels : ℕ) (entries new : List (CidParts × Option Walked)) → node.role ≡ Some role → levels ≡ node.deepest - node.depth
    → new ≡ insert_entry eq entries node.cid (Some (record { role = role; levels = levels })) → All (IsKeptOf entries node) new
kept_put eq laws node role levels entries new is l n =
    let value : Option Walked = Some (record { role = role; levels = levels }) in
    subst (All (IsKeptOf entries node)) (sym n)
    (All-weaker (λ e. Contains entries e ⊎ (e ≡ (node.cid, value))) (IsKeptOf entries node)
    (λ e h. elim h [
      | inl there ↦ inl there
      | inr same ↦ inr (role, is, same ∙ ap (λ (n : ℕ). let x : CidParts × Option Walked = (node.cid, Some (record { role = role; levels = n })) in x) l)
    ]) (insert_entry eq entries node.cid value) (put_entries eq laws node.cid value entries))
