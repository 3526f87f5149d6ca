-- Writes of a writer that is sought, and tells its bytes.
use Rattle.std.proofs.Common.{arith, ◌≡◌, ℕ, ◌+◌, List, ◌++◌, length, take, Option, Some, None, IfSome, Result, Ok, Err, OnOk, ap, ◌∙◌}
use Rattle.std.proofs.lemmas.List.{take_all}
use Rattle.std.proofs.lemmas.Result.{on_ok_weaker}
use Rattle.std.specs.Io.KnownBytes.{Appends, Keeps}
use Rattle.tg_files.specs.Readers.{StandsTo}

-- what was written at a place stands behind what stood before it
pub written_told : {X E : Type 0} (place_old place : Option ℕ) (bytes_old bytes held_old held held_new : Option (List ℕ)) (target k : ℕ) (new : List ℕ) (r : Result X E)
    → StandsTo place_old bytes_old held_old → StandsTo place bytes held → Keeps bytes_old bytes → IfSome place_old (λ p. (k ≡ target) × (place ≡ Some k))
    → OnOk r (Appends held held_new new) → OnOk r (IfSome bytes_old (λ xs. held_new ≡ Some (take target xs ++ new)))
written_told place_old place bytes_old bytes held_old held held_new target k new (Err e) old mid keeps moves wrote = tt
written_told place_old place None bytes held_old held held_new target k new (Ok x) old mid keeps moves wrote = tt
written_told None place (Some xs) bytes held_old held held_new target k new (Ok x) old mid keeps moves wrote = absurd old
written_told (Some p) place (Some xs) None held_old held held_new target k new (Ok x) old mid keeps moves wrote = absurd keeps
written_told (Some p) None (Some xs) (Some ys) held_old held held_new target k new (Ok x) old mid keeps moves wrote = absurd mid
written_told (Some p) (Some at) (Some xs) (Some ys) held_old None held_new target k new (Ok x) old mid keeps moves wrote = absurd (cc)
written_told (Some p) (Some at) (Some xs) (Some ys) held_old (Some zs) None target k new (Ok x) old mid keeps moves wrote = absurd wrote
written_told (Some p) (Some at) (Some xs) (Some ys) held_old (Some zs) (Some ws) target k new (Ok x) old mid keeps moves wrote =
    let there : at ≡ target = let same : at ≡ k = let so = moves.1 in cc in same ∙ moves.0 in
    let front : zs ≡ take at ys = cc in
    ap (λ l. Some l) (wrote ∙ ap (λ l. l ++ new) (front ∙ ap (λ n. take n ys) there ∙ ap (take target) keeps))

-- what was added at the end stands behind all that stood
pub added_told : {X E : Type 0} (place_old place : Option ℕ) (bytes_old bytes held_old held held_new : Option (List ℕ)) (k : ℕ) (new : List ℕ) (r : Result X E)
    → StandsTo place_old bytes_old held_old → StandsTo place bytes held → Keeps bytes_old bytes
    → IfSome place_old (λ p. IfSome bytes_old (λ xs. k ≡ length xs + 0) × (place ≡ Some k))
    → OnOk r (Appends held held_new new) → OnOk r (IfSome bytes_old (λ xs. held_new ≡ Some (xs ++ new)))
added_told place_old place None bytes held_old held held_new k new (Err e) old mid keeps moves wrote = tt
added_told place_old place None bytes held_old held held_new k new (Ok x) old mid keeps moves wrote = tt
added_told None place (Some xs) bytes held_old held held_new k new r old mid keeps moves wrote = absurd old
added_told (Some p) place (Some xs) bytes held_old held held_new k new r old mid keeps moves wrote =
    let end : k ≡ length xs = omega (arith, moves.0) in
    on_ok_weaker r (λ e. e ∙ ap (λ l. Some (l ++ new)) (take_all (length xs) xs (omega arith)))
    (written_told (Some p) place (Some xs) bytes held_old held held_new (length xs) k new r old mid keeps (end, moves.1) wrote)
