use Rattle.std.proofs.Common.{take}
use Rattle.lumos_words.specs.Words.{AreTexts}
use Rattle.lumos_words.specs.Matches.{texts_of}
use Rattle.lumos_words.proofs.parse.are_texts.Given as goal

abbrev pub invariant-loop-word : goal.invariant-loop-word
invariant-loop-word l = AreTexts (texts_of (take l.word-index l.words))
