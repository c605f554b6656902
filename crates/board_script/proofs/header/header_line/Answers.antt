use Rattle.board_script.proofs.header.header_line.Goals as goal

pub returns-in-Processors : goal.returns-in-Processors
returns-in-Processors c = rw c.in-Processors.is c.number_line-in-Processors.ensures
