-- Lists that are read from an index on.
use Rattle.std.proofs.Common.{◌≡◌, ℕ, ◌<◌, List, length, map, get_or, Some, refl, ap, ◌∙◌}
use Rattle.std.proofs.lemmas.Option.{slice_get-map, slice_get_read}
use Rattle.std.specs.Option.{option_map}
use Rattle.std.specs.Prelude.{slice_get}

-- the value there, of a list that is mapped
pub mapped_at : {A B : Type 0} (f : A → B) (xs : List A) (i : ℕ) (x : A) → x ≡ get_or xs i x → i < length xs → slice_get (map f xs) i ≡ Some (f x)
mapped_at f xs i x e h = slice_get-map f xs i ∙ ap (option_map f) (slice_get_read xs (length xs) i x refl h e)
