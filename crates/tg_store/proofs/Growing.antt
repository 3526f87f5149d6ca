-- What a pack holds that was created and grew.
use Rattle.std.proofs.Common.{◌≡◌, ◌+◌, ℕ, List, [], ◌∷◌, length, map, Option, Some, None, refl, ap, subst}
use Rattle.std.specs.Map.{keys_of}
use Rattle.tg_car.specs.CarText.{CarText, HeaderText, SectionsText}
use Rattle.tg_files.specs.Packs.{PackMeaning}
use Rattle.tg_model.specs.Dag.{Section}
use Rattle.tg_store.specs.declared.key.Key.{Key}
use Rattle.tg_store.specs.declared.place.Place.{Place}
use Rattle.tg_store.specs.Entries.{first_of_each, new_beside}
use Rattle.tg_store.specs.Finishing.{IsNew}
use Rattle.tg_store.specs.Packs.{ArePlacedAt, GrewBy, HasKept, PackStoreState, in_car, unfinished_root}

pub placed_sections : (at : ℕ) (sections : List Section) (bytes : List ℕ) (places : List (Key × Place)) → ArePlacedAt at sections bytes places → SectionsText (map in_car sections) bytes
placed_sections at [] bytes places h = h.0
placed_sections at (section ∷ sections) bytes places h = (h.0, h.1, h.3, h.4, placed_sections (at + length h.0) sections h.1 h.2 h.6)

grown_text : (old : Option (List ℕ)) (new : List ℕ) (before after : List (Key × Place)) (sections : List Section) → before ≡ []
    → ((content : List ℕ) → old ≡ Some content → HeaderText (unfinished_root ∷ []) content) → GrewBy old (Some new) before after sections
    → CarText (unfinished_root ∷ []) (map in_car (first_of_each sections)) new
grown_text None new before after sections none header grew = absurd grew
grown_text (Some old) new before after sections none header grew =
    let keys : new_beside (keys_of before) sections ≡ first_of_each sections = ap (λ (l : List (Key × Place)). new_beside (keys_of l) sections) none in
    let placed : ArePlacedAt (length old) (first_of_each sections) grew.texts grew.places =
    subst (λ (s : List Section). ArePlacedAt (length old) s grew.texts grew.places) keys grew.placed in
    record {
      header = old;
      rest = grew.texts;
      whole = grew.content;
      header_is = header old refl;
      sections_are = placed_sections (length old) (first_of_each sections) grew.texts grew.places placed;
    }

pub kept_text : {P : Type 0} (m : PackMeaning P) (a b : PackStoreState P) (sections : List Section) (content : List ℕ) → IsNew m a → HasKept m a b sections
    → m.content b.pack ≡ Some content → CarText (unfinished_root ∷ []) (map in_car (first_of_each sections)) content
kept_text m a b sections content new kept told =
    grown_text (m.content a.pack) content a.places b.places sections new.places new.header
    (subst (λ (o : Option (List ℕ)). GrewBy (m.content a.pack) o a.places b.places sections) told kept.grew)
