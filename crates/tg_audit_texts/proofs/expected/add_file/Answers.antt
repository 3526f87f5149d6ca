use Rattle.std.proofs.Common.{List, [], ap, codes, decimal, length, subst, ℕ, ◌++◌, ◌∙◌, ◌∷◌, ◌≡◌}
use Rattle.tg_audit_texts.proofs.ExpectedTexts.{record_text}
use Rattle.tg_audit_texts.proofs.expected.add_file.Goals as goal
use Rattle.tg_audit_texts.specs.Hashing.{IsHashing}

pub returns : goal.returns
returns c = λ text h.
    let folder = c.args.folder.now in
    let name = c.args.name.now in
    let bytes = c.args.bytes.now in
    let digits : c.as_bytes.result.now ≡ decimal (length bytes) = c.as_bytes.ensures.value ∙ c.format.ensures.text in
    subst (λ (t : List ℕ). IsHashing c.add-8.new.self t)
    (ap (λ (d : List ℕ). (((((((text ++ codes "file ") ++ d) ++ 32 ∷ []) ++ folder) ++ name) ++ 10 ∷ []) ++ bytes) ++ 10 ∷ []) digits
    ∙ record_text text (codes "file ") (decimal (length bytes)) folder name bytes)
    (c.add-8.ensures _ (c.add-7.ensures _ (c.add-6.ensures _
    (c.add-5.ensures _ (c.add-4.ensures _ (c.add-3.ensures _ (c.add-2.ensures _ (c.add.ensures text h))))))))
