-- The lines of a report. Each ends with a line feed, and numbers are decimal without leading zeros.
use Rattle.std.specs.Prelude.{ℕ, List, ◌++◌, codes}
use Rattle.std.specs.Fmt.{decimal}
use Rattle.grid_format.specs.declared.head.GridInfo.{GridInfo}
use Rattle.io_account.specs.declared.Counts.{Counts}
use Rattle.lumos_report.specs.declared.records.Ending.{Ending}
use Rattle.lumos_report.specs.declared.records.Kind.{Kind}
use Rattle.lumos_report.specs.declared.records.Why.{Why}

-- the first line: the program's word and the numbers of the graph
unfoldable pub head_line : List ℕ → GridInfo → List ℕ
head_line name info =
    codes "lumos " ++ name ++ codes " vertices " ++ decimal info.vertices ++ codes " edges " ++ decimal info.edges ++ codes " parts " ++ decimal info.parts ++ codes "\n"

-- the line of the values at first
unfoldable pub zero_line : List ℕ
zero_line = codes "iteration 0\n"

-- an iteration's kind, in a word
unfoldable pub kind_word : Kind → List ℕ
kind_word Kind.Full = codes "full"
kind_word Kind.Fed = codes "fed"

-- the line of a finished iteration: its blocks by what was done with them, and how many values moved
unfoldable pub counts_line : ℕ → Kind → Counts → List ℕ
counts_line t kind counts =
    codes "iteration " ++ decimal t ++ codes " " ++ kind_word kind
    ++ codes " primary " ++ decimal counts.primary ++ codes " secondary " ++ decimal counts.secondary
    ++ codes " skipped " ++ decimal counts.skipped ++ codes " empty " ++ decimal counts.empty
    ++ codes " moved " ++ decimal counts.moved ++ codes "\n"

-- a vertex and its shown value
unfoldable pub value_line : ℕ → List ℕ → List ℕ
value_line v shown = decimal v ++ codes " " ++ shown ++ codes "\n"

-- why a run ended, in a word: nothing moved any more, or all its iterations were done
unfoldable pub why_word : Why → List ℕ
why_word Why.Still = codes "still"
why_word Why.Limit = codes "limit"

-- the last line
unfoldable pub ending_line : Ending → List ℕ
ending_line ending = why_word ending.why ++ codes " " ++ decimal ending.iterations ++ codes "\n"
