mod Names
mod Trees
