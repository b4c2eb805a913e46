use Rattle.std.proofs.Common.{◌≡◌, ◌<◌, length, sym, [], ap, ◌∙◌, true}
use Rattle.clap.specs.Words.{app_of, fault_of, is_simple, is_simple_and_free, matches_of}
use Rattle.clap.specs.Kinds.{HasKind}
use Rattle.clap.specs.Simple.{App}
use Rattle.lumos_words.specs.Options.{has_program, options_of}
use Rattle.lumos_words.specs.Matches.{texts_of}
use Rattle.lumos_words.specs.Matches.{app_for}
use Rattle.lumos_words.proofs.TableLemmas.{simple_for}
use Rattle.lumos_words.proofs.ParseLemmas.{own_name, is_simple_for, says, says_nothing, some_kind, texts_some}
use Rattle.lumos_words.proofs.parse.parse.Goals as goal

pub returns-in-Ok-try_get_matches_from : goal.returns-in-Ok-try_get_matches_from
returns-in-Ok-try_get_matches_from c =
    let t = options_of c.args.word in
    let p = has_program c.args.word in
    let words = texts_of c.args.words.now in
    let m = c.in-Ok-try_get_matches_from.matches in
    let app : app_of c.in-Ok.command ≡ app_for t p = c.in-Ok.ensures in
    let is_free : is_simple_and_free (app_of c.in-Ok.command) ≡ true = ap is_simple_and_free app ∙ simple_for t p in
    let none : fault_of (app_of c.in-Ok.command) words ≡ [] = c.in-Ok-try_get_matches_from.ensures.kinds is_free in
    let matches = c.in-Ok-try_get_matches_from.ensures.matches (ap is_simple app ∙ is_simple_for t p) in
    let some : 0 < length words = texts_some c.args.words.now c.requires in
    says t p words m (own_name c.args.word) c.are_texts.ensures some (sym (ap (λ (a : App). fault_of a words) app) ∙ none) (matches.0 ∙ ap (λ (a : App). matches_of a words) app)

pub returns : goal.returns
returns c =
    let t = options_of c.args.word in
    let p = has_program c.args.word in
    let words = texts_of c.args.words.now in
    let app : app_of c.in-Ok.command ≡ app_for t p = c.in-Ok.ensures in
    let is_free : is_simple_and_free (app_of c.in-Ok.command) ≡ true = ap is_simple_and_free app ∙ simple_for t p in
    let kinds : HasKind (fault_of (app_of c.in-Ok.command) words) c.in-Err.error = c.in-Err.ensures.kinds is_free in
    let some : 0 < length words = texts_some c.args.words.now c.requires in
    says_nothing t p words (own_name c.args.word) c.are_texts.ensures some
    (λ none. some_kind c.in-Err.error (fault_of (app_of c.in-Ok.command) words) kinds (λ memory. c.in_default-kind.not-OutOfMemory (c.kind.ensures ∙ memory)) (ap (λ (a : App). fault_of a words) app ∙ none))
