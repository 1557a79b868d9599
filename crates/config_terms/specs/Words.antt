-- The words of configurations.
use Rattle.std.specs.Prelude.{ℕ, Bool, List, [], ◌∷◌, Option, codes}
use Rattle.std.specs.List.{find}
use Rattle.std.specs.Str.{bytes_eq}
use Rattle.ev_types.specs.declared.field.Field.{Field}
use Rattle.ev_types.specs.Names.{field_name}
use Rattle.ev_types.specs.declared.settings.Fold.{Fold}
use Rattle.ev_types.specs.declared.settings.Fold.TheVariants.{Sum, Minimum, Maximum, Count}
use Rattle.pred_eval.specs.declared.rule.Ordering.TheVariants.{Less, LessEqual, Greater, GreaterEqual}
use Rattle.config_terms.specs.declared.word.TopWord.{TopWord}
use Rattle.config_terms.specs.declared.word.TopWord.TheVariants as top
use Rattle.config_terms.specs.declared.word.StreamWord.{StreamWord}
use Rattle.config_terms.specs.declared.word.StreamWord.TheVariants as stream
use Rattle.config_terms.specs.declared.word.RuleWord.{RuleWord}
use Rattle.config_terms.specs.declared.word.RuleWord.TheVariants as rule

-- the one of these whose text is the name
abbrev pub named : {A : Type 0} → (A → List ℕ) → List A → List ℕ → Option A
named text all name = find (λ a. bytes_eq name (text a)) all

-- ---- what forms at the top begin with

abbrev pub top_text : TopWord → List ℕ
top_text top.TcpServer = codes "tcp-server"
top_text top.PeriodicallyExpire = codes "periodically-expire"
top_text top.Streams = codes "streams"
top_text top.Let = codes "let"

abbrev pub top_words : List TopWord
top_words = top.TcpServer ∷ top.PeriodicallyExpire ∷ top.Streams ∷ top.Let ∷ []

unfoldable pub top_word : List ℕ → Option TopWord
top_word = named top_text top_words

-- ---- what streams begin with

abbrev pub stream_text : StreamWord → List ℕ
stream_text stream.Index = codes "index"
stream_text stream.Notice = codes "notice"
stream_text stream.Sdo = codes "sdo"
stream_text stream.Where = codes "where"
stream_text stream.With = codes "with"
stream_text stream.Default = codes "default"
stream_text stream.Tag = codes "tag"
stream_text stream.By = codes "by"
stream_text stream.Changed = codes "changed"
stream_text stream.Runs = codes "runs"
stream_text stream.Throttle = codes "throttle"
stream_text stream.Rollup = codes "rollup"
stream_text stream.Batch = codes "batch"
stream_text stream.Stable = codes "stable"
stream_text stream.FixedEvent = codes "fixed-event-window"
stream_text stream.MovingEvent = codes "moving-event-window"
stream_text stream.FixedTime = codes "fixed-time-window"
stream_text stream.MovingTime = codes "moving-time-window"
stream_text stream.Coalesce = codes "coalesce"
stream_text stream.Smap = codes "smap"
stream_text stream.Expired = codes "expired"
stream_text stream.Tagged = codes "tagged"
stream_text stream.Over = codes "over"
stream_text stream.Under = codes "under"

abbrev pub stream_words : List StreamWord
stream_words =
    stream.Index ∷ stream.Notice ∷ stream.Sdo ∷ stream.Where ∷ stream.With ∷ stream.Default ∷ stream.Tag
    ∷ stream.By ∷ stream.Changed ∷ stream.Runs ∷ stream.Throttle ∷ stream.Rollup ∷ stream.Batch
    ∷ stream.Stable ∷ stream.FixedEvent ∷ stream.MovingEvent ∷ stream.FixedTime ∷ stream.MovingTime
    ∷ stream.Coalesce ∷ stream.Smap ∷ stream.Expired ∷ stream.Tagged ∷ stream.Over ∷ stream.Under ∷ []

unfoldable pub stream_word : List ℕ → Option StreamWord
stream_word = named stream_text stream_words

-- what begins the streams that get the rest
abbrev pub else_text : List ℕ
else_text = codes "else"

-- ---- what predicates begin with, beside fields

abbrev pub rule_text : RuleWord → List ℕ
rule_text rule.And = codes "and"
rule_text rule.Or = codes "or"
rule_text rule.Not = codes "not"
rule_text rule.Tagged = codes "tagged"
rule_text rule.Equal = codes "="
rule_text rule.NotEqual = codes "not="
rule_text (rule.Order Less) = codes "<"
rule_text (rule.Order LessEqual) = codes "<="
rule_text (rule.Order Greater) = codes ">"
rule_text (rule.Order GreaterEqual) = codes ">="
rule_text rule.Like = codes "like"

abbrev pub rule_words : List RuleWord
rule_words =
    rule.And ∷ rule.Or ∷ rule.Not ∷ rule.Tagged ∷ rule.Equal ∷ rule.NotEqual ∷ rule.Order Less ∷ rule.Order LessEqual
    ∷ rule.Order Greater ∷ rule.Order GreaterEqual ∷ rule.Like ∷ []

unfoldable pub rule_word : List ℕ → Option RuleWord
rule_word = named rule_text rule_words

-- predicates that are one word, and the value that is one
abbrev pub true_text : List ℕ
true_text = codes "true"

abbrev pub false_text : List ℕ
false_text = codes "false"

abbrev pub nil_text : List ℕ
nil_text = codes "nil"

-- ---- fields

abbrev pub tags_text : List ℕ
tags_text = codes "tags"

-- two fields are the same where their names are
abbrev pub same_field : Field → Field → Bool
same_field a b = bytes_eq (field_name a) (field_name b)

-- ---- folds

abbrev pub fold_text : Fold → List ℕ
fold_text Sum = codes "folds/sum"
fold_text Minimum = codes "folds/minimum"
fold_text Maximum = codes "folds/maximum"
fold_text Count = codes "folds/count"

abbrev pub fold_words : List Fold
fold_words = Sum ∷ Minimum ∷ Maximum ∷ Count ∷ []

unfoldable pub fold_word : List ℕ → Option Fold
fold_word = named fold_text fold_words

-- ---- keys of maps

abbrev pub init_text : List ℕ
init_text = codes "init"

abbrev pub idle_text : List ℕ
idle_text = codes "idle"

abbrev pub keep_text : List ℕ
keep_text = codes "keep-keys"

abbrev pub host_text : List ℕ
host_text = codes "host"

abbrev pub port_text : List ℕ
port_text = codes "port"
