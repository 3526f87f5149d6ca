use Rattle.std.proofs.Common.{◌≡◌, ◌∷◌, [], ◌++◌, All, drop, take, string_bytes, subst, sym, ap, ◌∙◌, ◌+◌}
use Rattle.std.proofs.lemmas.List.Elements.{All-push}
use Rattle.std.proofs.lemmas.List.{take_all, take_more}
use Rattle.std.specs.Str.{IsUtf8}
use Rattle.tg_files.specs.Folders.{IsEntryName, IsTextName, path_below}
use Rattle.tg_files.proofs.Moves.{path_on}
use Rattle.tg_files.proofs.host_folder.system_path.Goals as goal

pub loop-name-preserved : goal.loop-name-preserved
loop-name-preserved c =
    let i = c.loop-name.name-index in
    let name = c.name-item.result in
    let same : c.in-Ok.name.now ≡ name = c.in-Ok.ensures.cases.0 ∙ c.as_slice.ensures in
    let grown : string_bytes c.push_name.new.path ≡ (string_bytes c.loop-name.path ++ 47 ∷ []) ++ name =
    c.in_ok-push_name-in-Ok.ensures ∙ ap (λ n. (string_bytes c.loop-name.path ++ 47 ∷ []) ++ n) same in
    let leads : IsTextName name = (subst IsUtf8 c.as_slice.ensures c.in-Ok.ensures.cases.1, subst IsEntryName same (c.is_entry_name.ensures.0 c.if-is_entry_name.true)) in
    record {
      path = path_on _ _ c.args.names.now i name c.loop-name-test.true c.name-item.is c.loop-name.invariant.path ∙ ap (λ path. path_below path (drop (i + 1) c.args.names.now)) (sym grown);
      passed = subst (All IsTextName) (sym (take_more c.args.names.now i name c.loop-name-test.true ∙ ap (λ n. take i c.args.names.now ++ n ∷ []) (sym c.name-item.is))) (All-push IsTextName _ name c.loop-name.invariant.passed leads);
    }

pub returns-clause-names : goal.returns-clause-names
returns-clause-names c = subst (All IsTextName) (take_all c.loop-name.name-index c.args.names.now c.loop-name-test.false) c.loop-name.invariant.passed
