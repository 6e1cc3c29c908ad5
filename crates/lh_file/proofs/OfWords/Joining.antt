-- Hands joined into one, whatever room for acts each has
use Rattle.std.proofs.Common.{List, [], ◌∷◌, ◌++◌, ap, ◌∙◌}
use Rattle.std.specs.Prelude.{fold}
use Rattle.lh_settling.specs.declared.act.ActLine.{ActLine}
use Rattle.lh_file.specs.FileState.{FileState, IsOf}
use Rattle.lh_file.specs.Words.HandState.{HandState, IsSame, united}
use Rattle.lh_words.specs.Views.{joined_views}
use Rattle.lh_words.specs.declared.seat_view.Entry.{Entry}
use Rattle.lh_words.specs.declared.view.View.{View}

-- as it was, twice
pub same_then : (a b c : HandState) → IsSame a b → IsSame b c → IsSame a c
same_then a b c one two = record {
  table = two.table ∙ one.table;
  recording = two.recording ∙ one.recording;
  view = two.view ∙ one.view;
  entries = two.entries ∙ one.entries;
  logs = two.logs ∙ one.logs;
  acts = two.acts ∙ one.acts;
}

same_united : (a b x : HandState) → IsSame a b → IsSame (united a x) (united b x)
same_united a b x same = record {
  table = same.table;
  recording = same.recording;
  view = ap (λ (v : View). joined_views v x.view) same.view;
  entries = ap (λ (l : List Entry). l ++ x.entries) same.entries;
  logs = ap (λ (l : List (List Entry)). l ++ x.logs) same.logs;
  acts = ap (λ (l : List ActLine). l ++ x.acts) same.acts;
}

-- hands that are joined into the same hand make the same one
pub same_all : (xs : List HandState) (a b : HandState) → IsSame a b → IsSame (fold united a xs) (fold united b xs)
same_all [] a b same = same
same_all (x ∷ xs) a b same = same_all xs (united a x) (united b x) (same_united a b x same)

-- a hand that another one was joined into is still one of its file
pub of_joined : (file : FileState) (a x b : HandState) → IsOf file a → IsSame (united a x) b → IsOf file b
of_joined file a x b of same = record {
  table = same.table ∙ of.table;
  initial = ap (λ (v : View). v.initial) same.view ∙ of.initial;
  max = ap (λ (v : View). v.max) same.view ∙ of.max;
  recording = same.recording ∙ of.recording;
}
