-- How much is made of one more.
use Rattle.std.proofs.Common.{List, [], ap, ap₂, arith, length, ℕ, ◌+◌, ◌++◌, ◌∙◌, ◌∷◌, ◌≡◌}
use Rattle.std.proofs.lemmas.List.{length-append}
use Rattle.tg_extract.specs.Counts.{bytes_in, counts_of, files_in, folders_in}
use Rattle.tg_extract.specs.declared.counts.Counts.{Counts}
use Rattle.tg_new_tree.specs.declared.made.Made.{Made}
use Rattle.tg_new_tree.specs.declared.made.Made.TheVariants.{File, Folder}
use Rattle.tg_verify.specs.State.{told}

files_push : (old : List Made) (last : Made) → files_in (old ++ last ∷ []) ≡ files_in old + files_in (last ∷ [])
files_push [] last = omega arith
files_push (Folder path ∷ old) last = files_push old last
files_push (File path bytes ∷ old) last = omega (arith, files_push old last)

folders_push : (old : List Made) (last : Made) → folders_in (old ++ last ∷ []) ≡ folders_in old + folders_in (last ∷ [])
folders_push [] last = omega arith
folders_push (Folder path ∷ old) last = omega (arith, folders_push old last)
folders_push (File path bytes ∷ old) last = folders_push old last

bytes_push : (old : List Made) (last : Made) → bytes_in (old ++ last ∷ []) ≡ bytes_in old + bytes_in (last ∷ [])
bytes_push [] last = omega arith
bytes_push (Folder path ∷ old) last = bytes_push old last
bytes_push (File path bytes ∷ old) last = omega (arith, bytes_push old last)

told_on : (n k : ℕ) → told (told n + k) ≡ told (n + k)
told_on n k = omega arith

abbrev numbers : ℕ → ℕ → ℕ → Counts
numbers files folders bytes = record { files = files; folders = folders; bytes = bytes }

same_counts : (a b : Counts) → a.files ≡ b.files → a.folders ≡ b.folders → a.bytes ≡ b.bytes → a ≡ b
same_counts a b files folders bytes =
    ap₂ (λ (m n : ℕ). numbers m n a.bytes) files folders ∙ ap (λ (k : ℕ). numbers b.files b.folders k) bytes

-- what is counted of what was made
pub folder_counted : (old new : List Made) (path : List (List ℕ)) (counts : Counts) → new ≡ old ++ Folder path ∷ [] → counts ≡ counts_of old
    → record counts { folders = told (counts.folders + 1) } ≡ counts_of new
folder_counted old new path counts is same =
    same_counts (record counts { folders = told (counts.folders + 1) }) (counts_of new)
    (ap (λ (c : Counts). c.files) same ∙ ap told (omega (arith, ap files_in is, files_push old (Folder path))))
    (ap (λ (c : Counts). told (c.folders + 1)) same ∙ told_on (folders_in old) 1 ∙ ap told (omega (arith, ap folders_in is, folders_push old (Folder path))))
    (ap (λ (c : Counts). c.bytes) same ∙ ap told (omega (arith, ap bytes_in is, bytes_push old (Folder path))))

pub file_counted : (old new : List Made) (path : List (List ℕ)) (counts : Counts) → new ≡ old ++ File path [] ∷ [] → counts ≡ counts_of old
    → record counts { files = told (counts.files + 1) } ≡ counts_of new
file_counted old new path counts is same =
    same_counts (record counts { files = told (counts.files + 1) }) (counts_of new)
    (ap (λ (c : Counts). told (c.files + 1)) same ∙ told_on (files_in old) 1 ∙ ap told (omega (arith, ap files_in is, files_push old (File path []))))
    (ap (λ (c : Counts). c.folders) same ∙ ap told (omega (arith, ap folders_in is, folders_push old (File path []))))
    (ap (λ (c : Counts). c.bytes) same ∙ ap told (omega (arith, ap bytes_in is, bytes_push old (File path []))))

pub bytes_counted : (before old new : List Made) (path : List (List ℕ)) (held bytes : List ℕ) (n : ℕ) (counts : Counts) → old ≡ before ++ File path held ∷ []
    → new ≡ before ++ File path (held ++ bytes) ∷ [] → length bytes ≡ n → counts ≡ counts_of old → record counts { bytes = told (counts.bytes + n) } ≡ counts_of new
bytes_counted before old new path held bytes n counts was is size same =
    same_counts (record counts { bytes = told (counts.bytes + n) }) (counts_of new)
    (ap (λ (c : Counts). c.files) same
    ∙ ap told (omega (arith, ap files_in was, ap files_in is, files_push before (File path held), files_push before (File path (held ++ bytes)))))
    (ap (λ (c : Counts). c.folders) same
    ∙ ap told (omega (arith, ap folders_in was, ap folders_in is, folders_push before (File path held), folders_push before (File path (held ++ bytes)))))
    (ap (λ (c : Counts). told (c.bytes + n)) same ∙ told_on (bytes_in old) n
    ∙ ap told (omega (
      arith,
      size,
      ap bytes_in was,
      ap bytes_in is,
      bytes_push before (File path held),
      bytes_push before (File path (held ++ bytes)),
      length-append held bytes,
    )))
