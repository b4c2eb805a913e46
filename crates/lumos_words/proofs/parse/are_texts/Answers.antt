use Rattle.std.proofs.Common.{◌≡◌, ◌+◌, ◌∙◌, take, sym, ap, subst, ◌++◌, [], ◌∷◌}
use Rattle.std.proofs.lemmas.List.{take_more, map-append}
use Rattle.std.specs.List.{slice_index_or}
use Rattle.std.specs.Str.{IsUtf8}
use Rattle.std.specs.String.{string_bytes}
use Rattle.lumos_words.specs.Words.{AreTexts}
use Rattle.lumos_words.specs.Matches.{texts_of}
use Rattle.lumos_words.proofs.ParseLemmas.{texts_more}
use Rattle.lumos_words.proofs.parse.are_texts.Goals as goal

pub loop-word-preserved : goal.loop-word-preserved
loop-word-preserved c =
    let words = c.args.words.now in
    let i = c.loop-word.word-index in
    let utf : IsUtf8 (string_bytes c.word-item.result) = subst IsUtf8 c.as_str-text.ensures.value c.as_str-text.utf8 in
    let item : string_bytes c.word-item.result ≡ string_bytes (slice_index_or words i c.word-item.result) = ap string_bytes c.word-item.is in
    let more : texts_of (take (i + 1) words) ≡ texts_of (take i words) ++ string_bytes (slice_index_or words i c.word-item.result) ∷ [] =
    ap texts_of (take_more words i c.word-item.result c.loop-word-test.true) ∙ map-append string_bytes (take i words) (slice_index_or words i c.word-item.result ∷ []) in
    subst AreTexts (sym more) (texts_more _ _ c.loop-word.invariant (subst IsUtf8 item utf))
