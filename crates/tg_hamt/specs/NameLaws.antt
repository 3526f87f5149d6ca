-- What holds of the names of entries: of two that differ one comes first, and those of distinct entries differ.
use Rattle.std.proofs.Common.{◌≢◌, ℕ, ◌<◌, List, [], length, get_or, sym, ◌∙◌, arith}
use Rattle.std.specs.List.{IsDistinct}
use Rattle.std.specs.Prelude.{bytes_eq, map}
use Rattle.std.proofs.lemmas.List.{get_or-map, length-map}
use Rattle.std.proofs.lemmas.Map.Keys.{apart_from_distinct}
use Rattle.std.proofs.lemmas.Slice.Eq.{bytes_eq-Decides}
use Rattle.tg_model.specs.declared.kinds.NewEntry.{NewEntry}

-- two entries of distinct names have different names
pub other_names : (es : List NewEntry) (i j : ℕ) (d : NewEntry)
    → IsDistinct bytes_eq (map (λ (e : NewEntry). e.name) es) → i < j → j < length es
    → (get_or es i d).name ≢ (get_or es j d).name
other_names es i j d differ lt inside same =
    let f = λ (e : NewEntry). e.name in
    let names = map f es in
    let no = apart_from_distinct bytes_eq names i j [] differ lt (omega (arith, length-map es f, inside)) in
    let yes = (bytes_eq-Decides (get_or names i []) (get_or names j [])).1 (get_or-map f es i d [] (omega (arith, lt, inside)) ∙ same ∙ sym (get_or-map f es j d [] inside)) in
    absurd (cc)
