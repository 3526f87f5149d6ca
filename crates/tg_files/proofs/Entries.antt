-- Lists that are filled together.
use Rattle.std.proofs.Common.{◌≡◌, ℕ, List, [], ◌∷◌, ◌++◌, String, string_bytes, subst, sym, ◌∙◌, Option, Result, Ok, Err, IfOk, map-id}
use Rattle.std.proofs.lemmas.Iterator.{YieldsList, items_from_drains}
use Rattle.std.specs.Iterator.{DrainsIf}
use Rattle.std.specs.List.{AllZip}
use Rattle.std.specs.Prelude.{⊤}
use Rattle.tg_files.specs.System.{IsEntryOf}
use Rattle.tg_files.specs.declared.host_folder.Listed.{Listed}
use Rattle.tg_tree.specs.declared.items.Item.{Item}

all_zip_more : {A B : Type 0} (R : A → B → Type 0) (xs : List A) (ys : List B) (x : A) (y : B) → AllZip R xs ys → R x y → AllZip R (xs ++ x ∷ []) (ys ++ y ∷ [])
all_zip_more R [] [] x y h r = (r, tt)
all_zip_more R [] (z ∷ ys) x y h r = absurd h
all_zip_more R (z ∷ xs) [] x y h r = absurd h
all_zip_more R (z ∷ xs) (w ∷ ys) x y h r = (h.0, all_zip_more R xs ys x y h.1 r)

-- one entry more
pub entries_more : {Y : Type 0} (folder : List ℕ) (items items_new : List Item) (found found_new : List (String Y × Listed)) (item : Item) (path : String Y) (listed : Listed)
    → AllZip (λ (item : Item) (found : String Y × Listed). IsEntryOf folder item (string_bytes found.0) found.1) items found → IsEntryOf folder item (string_bytes path) listed
    → items_new ≡ items ++ item ∷ [] → found_new ≡ found ++ (path, listed) ∷ []
    → AllZip (λ (item : Item) (found : String Y × Listed). IsEntryOf folder item (string_bytes found.0) found.1) items_new found_new
entries_more {Y} folder items items_new found found_new item path listed h e items_are found_are =
    subst (λ (l : List Item). AllZip (λ (item : Item) (found : String Y × Listed). IsEntryOf folder item (string_bytes found.0) found.1) l found_new) (sym items_are)
    (subst (λ (l : List (String Y × Listed)). AllZip (λ (item : Item) (found : String Y × Listed). IsEntryOf folder item (string_bytes found.0) found.1) (items ++ item ∷ []) l) (sym found_are)
    (all_zip_more (λ (item : Item) (found : String Y × Listed). IsEntryOf folder item (string_bytes found.0) found.1) items found item (path, listed) h e))

-- what is made of all that an iterator gives
pub made_of_all : {S A V E : Type 0} {steps : S → Option A → S → Type 0} {B : S → Type 0} {all : List A} (Q : List A → V → Type 0) (r : Result V E)
    → IfOk r (λ v. (it : S) × (xs : List A) × B it × DrainsIf steps ⊤ it xs × Q xs v) → ((it : S) → B it → YieldsList steps (λ x. x) it all) → IfOk r (Q all)
made_of_all Q (Ok v) ran road = subst (λ xs. Q xs v) (sym (map-id ran.1) ∙ items_from_drains ran.1 ran.3 (road ran.0 ran.2)) ran.4
made_of_all Q (Err e) ran road = tt
