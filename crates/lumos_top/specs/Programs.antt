-- The programs that words name.
use Rattle.std.specs.Prelude.{◌<◌, ◌^◌, ℕ, List, Some, codes, map}
use Rattle.byteorder.specs.Endian.{little_number}
use Rattle.lumos_law.specs.Combines.{IsLeast, IsTotal, IsTotal4, least, total, total4_from}
use Rattle.lumos_law.specs.Program.{Program}
use Rattle.lumos_law.specs.declared.combines.Least.{Least}
use Rattle.lumos_law.specs.declared.combines.Total.{Total}
use Rattle.lumos_law.specs.declared.combines.Total4.{Total4}
use Rattle.programs.specs.Components.{IsLabel, components_program, label_of}
use Rattle.programs.specs.Flagged.{flagged_from}
use Rattle.programs.specs.PageRank.{IsRank, pagerank_program, rank_from}
use Rattle.programs.specs.Paths.{IsCost, cost_with, paths_program}
use Rattle.programs.specs.Spreading.{IsScores, scores_from, spreading_program}
use Rattle.programs.specs.Tally.{tally_program}
use Rattle.programs.specs.declared.components.Label.{Label}
use Rattle.programs.specs.declared.pagerank.Rank.{Rank}
use Rattle.programs.specs.declared.paths.Cost.{Cost}
use Rattle.programs.specs.declared.seeds.Seed.{Seed}
use Rattle.programs.specs.declared.spreading.Scores.{Scores}
use Rattle.lumos_words.specs.declared.request.ProgramWords.{ProgramWords}
use Rattle.lumos_words.specs.declared.request.ProgramWords.TheVariants.{PageRank, Spreading, Paths, Components, Tally}
use Rattle.lumos_words.specs.declared.request.SeedWord.{SeedWord}
use Rattle.windows.specs.Windows.{Coding}

-- A program as a command runs it: how it acts, the text of its name, which values and sums it may meet, and how they stand in
-- records.
pub record Chosen : Type 1 where
  pub Value : Type 0
  pub Sum : Type 0
  pub program : Program Value Sum
  pub name : List ℕ
  pub is_value : Value → Type 0
  pub is_sum : Sum → Type 0
  pub coding : Coding Value Sum

-- the seeds that words list
abbrev pub seed_from : SeedWord → Seed
seed_from word = record { vertex = word.vertex; class = word.class }

abbrev pub seeds_from : List SeedWord → List Seed
seeds_from words = map seed_from words

-- how the values and sums of each program stand in records
abbrev pub rank_coding : Coding Rank Total
rank_coding = record { value_of = λ bytes. Some (rank_from bytes); value_width = 12; sum_of = λ bytes. Some (total (little_number 8 bytes)); sum_width = 8 }

abbrev pub scores_coding : Coding Scores Total4
scores_coding = record { value_of = λ bytes. Some (scores_from bytes); value_width = 40; sum_of = λ bytes. Some (total4_from bytes); sum_width = 32 }

abbrev pub cost_coding : Coding Cost Least
cost_coding = record { value_of = flagged_from cost_with; value_width = 9; sum_of = λ bytes. Some (least (little_number 8 bytes)); sum_width = 8 }

abbrev pub label_coding : Coding Label Least
label_coding = record { value_of = flagged_from label_of; value_width = 9; sum_of = λ bytes. Some (least (little_number 8 bytes)); sum_width = 8 }

abbrev pub count_coding : Coding ℕ Total
count_coding = record { value_of = λ bytes. Some (little_number 8 bytes); value_width = 8; sum_of = λ bytes. Some (total (little_number 8 bytes)); sum_width = 8 }

-- the program of these words
abbrev pub chosen : ProgramWords → Chosen
chosen (PageRank unit share) = record { Value = Rank; Sum = Total; program = pagerank_program unit share; name = codes "pagerank"; is_value = IsRank; is_sum = IsTotal; coding = rank_coding }
chosen (Spreading unit share seeds) = record { Value = Scores; Sum = Total4; program = spreading_program unit share (seeds_from seeds); name = codes "spreading"; is_value = IsScores; is_sum = IsTotal4; coding = scores_coding }
chosen (Paths start) = record { Value = Cost; Sum = Least; program = paths_program start; name = codes "paths"; is_value = IsCost; is_sum = IsLeast; coding = cost_coding }
chosen Components = record { Value = Label; Sum = Least; program = components_program; name = codes "components"; is_value = IsLabel; is_sum = IsLeast; coding = label_coding }
chosen Tally = record { Value = ℕ; Sum = Total; program = tally_program; name = codes "tally"; is_value = λ n. n < 2 ^ 64; is_sum = IsTotal; coding = count_coding }
