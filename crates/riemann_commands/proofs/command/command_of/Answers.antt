use Rattle.riemann_commands.proofs.WordLaws.{five_words, four_words, three_words, two_words}
use Rattle.riemann_commands.proofs.command.command_of.Goals as goal

pub returns-in-len2 : goal.returns-in-len2
returns-in-len2 c =
    rw (two_words c.args.words.now _ _ c.in-len2.len_at_least c.in-len2.len_below c.command-item.is c.config-item.is)
    c.command_on_one.ensures

pub returns-in-len3 : goal.returns-in-len3
returns-in-len3 c =
    rw
    (three_words c.args.words.now _ _ _ c.in-len3.len_at_least c.in-len3.len_below c.command-item-then-words-lt4.is
    c.config-item-then-words-lt4.is c.file-item.is)
    c.command_on_two.ensures

pub returns-in-len4 : goal.returns-in-len4
returns-in-len4 c =
    rw (four_words c.args.words.now _ _ _ _ c.in-len4.len_at_least c.in-len4.len_below c.command-item-then-words-lt5.is
    c.config-item-then-words-lt5.is c.second-item.is c.third-item.is)
    c.command_on_three.ensures

pub returns-in-len5 : goal.returns-in-len5
returns-in-len5 c =
    rw (five_words c.args.words.now _ _ _ _ _ c.in-len5.len_at_least c.in-len5.len_below
    c.command-item-then-words-lt6.is c.address-item.is c.second-item-then-words-lt6.is c.option-item.is
    c.number-item.is)
    c.command_on_four.ensures
